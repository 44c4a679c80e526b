use Rattle.place.proofs.Quiet.{AheadInv}
use Rattle.lines.proofs.EachLaws.{Over}
use Rattle.place.proofs.find_loop.Given as goal

abbrev pub invariant-loop-line : goal.invariant-loop-line
invariant-loop-line l = let it = l.line-iterator in Over l.text it × (AheadInv l.text it.at l.k)
