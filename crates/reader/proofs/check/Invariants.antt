use Prim.Native.Nat.{◌-◌}
use lib.ListN.{length}
use Rattle.origins.specs.Form.{form_shape}
use Rattle.reader.proofs.Laws.{CheckInv}
use Rattle.reader.proofs.check.Given as goal

abbrev pub invariant-loop-o : goal.invariant-loop-o
invariant-loop-o l = CheckInv (form_shape l.f) l.file l.i l.o

abbrev pub decreases-loop-o : goal.decreases-loop-o
decreases-loop-o l = length l.file - l.o
