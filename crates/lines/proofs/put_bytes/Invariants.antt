use Rattle.lines.proofs.StepLaws.{Splitting}
use Rattle.lines.proofs.put_bytes.Given as goal

abbrev pub invariant-loop-i : goal.invariant-loop-i
invariant-loop-i l = Splitting l.text l.i l.initial.out l.out l.o
