use Prim.Native.Nat.{◌-◌}
use lib.ListN.{length}
use Rattle.lines.specs.Lf.{part}
use Rattle.once.proofs.Writes.{ActsInv}
use Rattle.once.proofs.put_acts.Given as goal

abbrev pub invariant-loop-i : goal.invariant-loop-i
invariant-loop-i l = ActsInv l.text l.marks l.initial.out l.out l.c l.i l.k l.o l.given (part l.a l.b l.text)

abbrev pub decreases-loop-i : goal.decreases-loop-i
decreases-loop-i l = length l.text - l.i
