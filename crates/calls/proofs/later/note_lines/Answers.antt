use Prim.Native.Nat.{ℕ}
use mathlib.Core.Path.{sym, ap, subst, ◌∙◌}
use native.Mathlib.Omega.{arith}
use lib.ListN.{length, replicate}
use lib.Seq.{take_all}
use Rattle.decls.proofs.SeenLaws.{wiped-most}
use Rattle.records.proofs.Shown.{told-long}
use Rattle.calls.specs.Inner.Later.{Spans}
use Rattle.calls.proofs.Rows.{spans-empty}
use Rattle.calls.proofs.later.note_lines.Goals as goal

pub pays-requires : goal.pays-requires
pays-requires c = (told-long c.requires).0

pub shape_of-near-then-not-pays : goal.shape_of-near-then-not-pays
shape_of-near-then-not-pays c = c.wipe_numbers.auto.numbers

pub shape_of-stores-then-not-pays : goal.shape_of-stores-then-not-pays
shape_of-stores-then-not-pays c = c.wipe_numbers-2.auto.numbers

pub shape_of-notes-then-not-pays : goal.shape_of-notes-then-not-pays
shape_of-notes-then-not-pays c = c.wipe_numbers-3.auto.numbers

pub returns-then-not-pays : goal.returns-then-not-pays
returns-then-not-pays c =
    record { answer = (omega arith, spans-empty c.args.text.now c.wipe_numbers-3.new.numbers); memory = (c.wipe_numbers.ensures, c.wipe_numbers-2.ensures) }

pub note_up-requires : goal.note_up-requires
note_up-requires c = (wiped-most (length c.args.near.now) _ c.wipe_numbers.ensures, (wiped-most (length c.args.stores.now) _ c.wipe_numbers-2.ensures, (wiped-most (length c.args.notes.now) _ c.wipe_numbers-3.ensures, (c.requires, c.pays.ensures c.if-not-pays.false))))

pub shape_of-near : goal.shape_of-near
shape_of-near c = c.wipe_numbers-4.auto.numbers ∙ c.note_up.auto.near ∙ c.wipe_numbers.auto.numbers

pub shape_of-stores : goal.shape_of-stores
shape_of-stores c = c.wipe_numbers-5.auto.numbers ∙ c.note_up.auto.stores ∙ c.wipe_numbers-2.auto.numbers

pub shape_of-notes : goal.shape_of-notes
shape_of-notes c = c.note_up.auto.notes ∙ c.wipe_numbers-3.auto.numbers

pub returns : goal.returns
returns c =
    let d = c.note_up.new.notes in
    record { answer = (omega (arith, c.note_up.auto.notes, c.wipe_numbers-3.auto.numbers), subst (Spans c.args.text.now) (sym (take_all (length d) d (omega arith))) c.note_up.ensures); memory = (c.wipe_numbers-4.ensures ∙ ap (λ (n : ℕ). replicate n 0) (c.note_up.auto.near ∙ c.wipe_numbers.auto.numbers), c.wipe_numbers-5.ensures ∙ ap (λ (n : ℕ). replicate n 0) (c.note_up.auto.stores ∙ c.wipe_numbers-2.auto.numbers)) }
