use mathlib.Core.Path.{◌≡◌}
use lib.ListN.{length}
use Rattle.once.proofs.NoteFills.{NoteInv}
use Rattle.once.proofs.noted.note_up.Given as goal

abbrev pub invariant-loop-i : goal.invariant-loop-i
invariant-loop-i l =
    NoteInv l.own l.text l.paths l.near l.far l.stores l.notes l.i l.m l.h × ((length l.near ≡ length l.initial.near) × ((length l.far ≡ length l.initial.far) × ((length l.stores ≡ length l.initial.stores) × (length l.notes ≡ length l.initial.notes))))

abbrev pub decreases-loop-i : goal.decreases-loop-i
decreases-loop-i l = l.i
