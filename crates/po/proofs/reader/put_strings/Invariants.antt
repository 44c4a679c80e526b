use Prim.Native.Nat.{◌-◌}
use lib.ListN.{length}
use Rattle.po.proofs.StateLaws.{GivenInv}
use Rattle.po.proofs.reader.put_strings.Given as goal

abbrev pub invariant-loop-e : goal.invariant-loop-e
invariant-loop-e l = GivenInv l.file l.initial.out l.out l.o l.i l.w l.e

abbrev pub decreases-loop-e : goal.decreases-loop-e
decreases-loop-e l = length l.file - l.i
