use Prim.Native.Nat.{suc, ◌-◌}
use mathlib.Core.Bool.{true, false}
use Rattle.pruned.specs.Inner.Walk.{moved_from}
use Rattle.pruned.proofs.SeekCode.{SeekInv}
use Rattle.pruned.proofs.walk.seek.Given as goal

abbrev pub invariant-loop-k : goal.invariant-loop-k
invariant-loop-k l = SeekInv l.raw l.used l.p (moved_from true false (suc l.lo) l.at l.initial.live l.raw l.used l.p) l.initial.live l.live l.stop l.to l.top l.k l.i

abbrev pub decreases-loop-k : goal.decreases-loop-k
decreases-loop-k l = l.stop - l.k
