use Prim.Native.Nat.{◌+◌, ◌-◌}
use Rattle.calls.proofs.Climbs.{Climb}
use Rattle.calls.proofs.walk_up.Given as goal

abbrev pub invariant-loop-k : goal.invariant-loop-k
invariant-loop-k l = Climb l.text l.n l.i l.below l.blocks l.starts l.initial.owner l.stack (l.o + l.size) l.initial.cur l.initial.next l.owner l.cur l.next l.k l.p l.h l.c l.over l.steps

abbrev pub decreases-loop-k : goal.decreases-loop-k
decreases-loop-k l = 64 - l.steps
