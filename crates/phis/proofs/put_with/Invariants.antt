use Rattle.reading.specs.Reading.{reading_of}
use Rattle.phis.proofs.Writes.{RoundInv}
use Rattle.phis.proofs.Moves.{ThinInv}
use Rattle.lines.proofs.EachLaws.{Over}
use Rattle.phis.proofs.put_with.Given as goal

abbrev pub invariant-loop-line : goal.invariant-loop-line
invariant-loop-line l = let it = l.line-iterator in Over l.text it × ((RoundInv (reading_of l.mode.0) l.text l.initial.scratch l.initial.out l.scratch l.out it.at l.o) × (ThinInv (reading_of l.mode.0) l.text l.initial.moves l.moves it.at l.k))
