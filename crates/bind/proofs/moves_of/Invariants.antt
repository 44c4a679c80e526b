use Rattle.lines.proofs.OutLaws.{PutInv}
use Rattle.bind.specs.Inner.Steps.{note_moves}
use Rattle.bind.proofs.moves_of.Given as goal

abbrev pub invariant-loop-i : goal.invariant-loop-i
invariant-loop-i l = PutInv (note_moves l.marks) l.initial.moves l.moves 0 l.i l.i
