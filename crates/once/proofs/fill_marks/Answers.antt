use Prim.Native.Nat.{ℕ}
use mathlib.Core.Path.{refl, ap, ◌∙◌}
use lib.ListN.{replicate}
use Rattle.slots.proofs.SlotLaws.{wiped-zeros}
use Rattle.once.proofs.fill_marks.Goals as goal

pub note_lines-requires : goal.note_lines-requires
note_lines-requires c = (c.requires.1.1.0, c.requires.1.1.1)

pub mark_with-n-requires : goal.mark_with-n-requires
mark_with-n-requires c =
    let n = c.note_lines.ensures in
    (c.requires.0, (c.requires.1.0, (n.once, (c.calm_len-calm.ensures, (n.notes, c.requires.1.1.1.1)))))

pub shape_of-scratch : goal.shape_of-scratch
shape_of-scratch c = c.mark_with-n.auto.scratch

pub shape_of-marks : goal.shape_of-marks
shape_of-marks c = c.mark_with-n.auto.marks

pub shape_of-near : goal.shape_of-near
shape_of-near c = c.note_lines.auto.near

pub shape_of-far : goal.shape_of-far
shape_of-far c = c.note_lines.auto.far

pub shape_of-stores : goal.shape_of-stores
shape_of-stores c = c.note_lines.auto.stores

pub shape_of-notes : goal.shape_of-notes
shape_of-notes c = c.wipe.auto.s ∙ c.note_lines.auto.notes

pub returns : goal.returns
returns c =
    let n = c.note_lines.ensures.memory in
    let e = c.mark_with-n.ensures in
    record { answer = e.answer; memory = e.memory; tables = (n.0, (n.1.0, (n.1.1, wiped-zeros refl refl c.wipe.ensures ∙ ap (λ (n : ℕ). replicate n 0) c.note_lines.auto.notes))) }
