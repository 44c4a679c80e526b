use Prim.Native.Nat.{◌-◌}
use lib.ListN.{length}
use Rattle.once.proofs.NoteFills.{ReadsInv}
use Rattle.once.proofs.noted.note_runs.Given as goal

abbrev pub invariant-loop-i : goal.invariant-loop-i
invariant-loop-i l = ReadsInv l.own l.n l.h l.m l.s (l.initial.near, (l.initial.far, l.initial.notes)) (l.near, (l.far, l.notes)) l.i

abbrev pub decreases-loop-i : goal.decreases-loop-i
decreases-loop-i l = length l.s - l.i
