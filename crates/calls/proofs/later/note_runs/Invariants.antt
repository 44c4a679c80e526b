use Prim.Native.Nat.{◌-◌}
use lib.ListN.{length}
use Rattle.calls.proofs.Notes.{ReadsInv}
use Rattle.calls.proofs.later.note_runs.Given as goal

abbrev pub invariant-loop-i : goal.invariant-loop-i
invariant-loop-i l = ReadsInv l.own l.c l.h l.s l.initial.near l.near l.i

abbrev pub decreases-loop-i : goal.decreases-loop-i
decreases-loop-i l = length l.s - l.i
