use Rattle.lines.proofs.OutLaws.{PutInv}
use Rattle.once.specs.Inner.Moves.{move_marks}
use Rattle.once.proofs.moves_of.Given as goal

abbrev pub invariant-loop-i : goal.invariant-loop-i
invariant-loop-i l = PutInv (move_marks l.marks) l.initial.moves l.moves 0 l.i l.i
