use Prim.Native.Nat.{◌-◌}
use lib.ListN.{length}
use Rattle.decls.proofs.MarkRuns.{FromInv}
use Rattle.decls.proofs.seen.mark_runs.Given as goal

abbrev pub invariant-loop-i : goal.invariant-loop-i
invariant-loop-i l = FromInv l.own l.m l.s l.initial.seen l.seen l.i

abbrev pub decreases-loop-i : goal.decreases-loop-i
decreases-loop-i l = length l.s - l.i
