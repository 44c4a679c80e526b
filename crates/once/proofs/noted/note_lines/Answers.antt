use Prim.Native.Nat.{ℕ}
use mathlib.Core.Path.{refl, ap, ◌∙◌}
use lib.ListN.{length, replicate}
use Rattle.decls.proofs.SeenLaws.{wiped-most}
use Rattle.slots.proofs.SlotLaws.{wiped-zeros}
use Rattle.once.proofs.NoteFills.{wiped-lengths}
use Rattle.once.proofs.noted.note_lines.Goals as goal

pub note_up-requires : goal.note_up-requires
note_up-requires c =
    let a = c.args in
    (c.requires.0, (wiped-lengths a.near.now a.far.now a.stores.now _ _ _ c.wipe_numbers.ensures c.wipe_numbers-2.ensures c.wipe_numbers-3.ensures c.requires.1.0, (wiped-most (length a.near.now) _ c.wipe_numbers.ensures, (wiped-most (length a.far.now) _ c.wipe_numbers-2.ensures, (wiped-most (length a.stores.now) _ c.wipe_numbers-3.ensures, (wiped-most (length a.notes.now) _ (wiped-zeros refl refl c.wipe.ensures), c.requires.1.1))))))

pub shape_of-near : goal.shape_of-near
shape_of-near c = c.wipe_numbers-4.auto.numbers ∙ c.note_up.auto.near ∙ c.wipe_numbers.auto.numbers

pub shape_of-far : goal.shape_of-far
shape_of-far c = c.wipe_numbers-5.auto.numbers ∙ c.note_up.auto.far ∙ c.wipe_numbers-2.auto.numbers

pub shape_of-stores : goal.shape_of-stores
shape_of-stores c = c.wipe_numbers-6.auto.numbers ∙ c.note_up.auto.stores ∙ c.wipe_numbers-3.auto.numbers

pub shape_of-notes : goal.shape_of-notes
shape_of-notes c = c.note_up.auto.notes ∙ c.wipe.auto.s

pub returns : goal.returns
returns c =
    let k = c.note_up.auto in
    record { once = c.note_up.ensures.once; notes = c.note_up.ensures.notes; memory = (c.wipe_numbers-4.ensures ∙ ap (λ (n : ℕ). replicate n 0) (k.near ∙ c.wipe_numbers.auto.numbers), (c.wipe_numbers-5.ensures ∙ ap (λ (n : ℕ). replicate n 0) (k.far ∙ c.wipe_numbers-2.auto.numbers), c.wipe_numbers-6.ensures ∙ ap (λ (n : ℕ). replicate n 0) (k.stores ∙ c.wipe_numbers-3.auto.numbers))) }
