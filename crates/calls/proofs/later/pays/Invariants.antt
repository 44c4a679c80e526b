use Prim.Native.Nat.{◌-◌, ◌≤◌}
use Rattle.calls.proofs.later.pays.Given as goal

abbrev pub invariant-loop-k : goal.invariant-loop-k
invariant-loop-k l = l.left ≤ l.most

abbrev pub decreases-loop-k : goal.decreases-loop-k
decreases-loop-k l = l.m - l.k
