use lib.ListN.{length}
use Prim.Native.Nat.{◌-◌}
use Rattle.pruned.proofs.SeekCode.{StretchInv}
use Rattle.pruned.proofs.walk.stretch.Given as goal

abbrev pub invariant-loop-i : goal.invariant-loop-i
invariant-loop-i l = StretchInv l.raw l.used l.live l.lo l.at l.k l.i

abbrev pub decreases-loop-i : goal.decreases-loop-i
decreases-loop-i l = length l.raw - l.i
