use Rattle.std.proofs.Common.{◌≡◌, ◌++◌, ◌-◌, drop, replicate, length, min}
use Rattle.lines.proofs.wipe_blocks.Given as goal

abbrev pub invariant-loop-i : goal.invariant-loop-i
invariant-loop-i g l = l.s ≡ replicate (min l.i (length l.initial.s)) l.zero ++ drop l.i l.initial.s

abbrev pub decreases-loop-i : goal.decreases-loop-i
decreases-loop-i g l = length l.initial.s - l.i
