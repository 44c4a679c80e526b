use Rattle.place.proofs.Nests.{LoopsInv}
use Rattle.lines.proofs.EachLaws.{Over}
use Rattle.place.proofs.walk_loops.Given as goal

abbrev pub invariant-loop-line : goal.invariant-loop-line
invariant-loop-line l = let it = l.line-iterator in Over l.text it × (LoopsInv l.text l.initial.flags l.flags it.at l.k l.d l.o)
