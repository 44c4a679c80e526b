use Rattle.po.proofs.DigitLaws.{DigitInv}
use Rattle.po.proofs.put_decimal.Given as goal

abbrev pub invariant-loop-m : goal.invariant-loop-m
invariant-loop-m l = DigitInv l.n l.o l.initial.out l.out l.p l.m

abbrev pub decreases-loop-m : goal.decreases-loop-m
decreases-loop-m l = l.m
