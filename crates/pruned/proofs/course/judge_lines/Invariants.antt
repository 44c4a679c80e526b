use lib.ListN.{length}
use Prim.Native.Nat.{◌+◌, ◌-◌}
use Rattle.pruned.proofs.CourseCode.{CourseInv}
use Rattle.pruned.proofs.course.judge_lines.Given as goal

abbrev pub invariant-loop-live : goal.invariant-loop-live
invariant-loop-live l = CourseInv l.raw l.pruned l.used l.initial.live l.live l.m l.lo l.at l.stop l.to l.top l.i l.j l.last

abbrev pub decreases-loop-live : goal.decreases-loop-live
decreases-loop-live l = (length l.raw - l.at) + (length l.pruned - l.i)
