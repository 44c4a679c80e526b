use lib.ListN.{length}
use Prim.Native.Nat.{◌-◌}
use Rattle.pruned.specs.Inner.Walk.{moved_from}
use Rattle.pruned.proofs.WalkCode.{WalkInv}
use Rattle.pruned.proofs.walk.walk.Given as goal

abbrev pub invariant-loop-i : goal.invariant-loop-i
invariant-loop-i l = WalkInv l.raw l.used l.p (moved_from l.was0 l.up0 l.k0 l.i0 l.initial.live l.raw l.used l.p) l.initial.live l.live l.was l.up l.top l.k l.i

abbrev pub decreases-loop-i : goal.decreases-loop-i
decreases-loop-i l = length l.raw - l.i
