use mathlib.Core.Path.{refl, sym, ◌∙◌}
use Rattle.reading.specs.Reading.{reading_of}
use Rattle.lines.specs.Lf.{lines_of}
use Rattle.once.proofs.Zeros.{zeroed-kept}
use Rattle.once.proofs.Decides.{drops-live, drops-kept, drops-scratch, drops-loop, drops-read, drops-impure, drops-dead}
use Rattle.once.proofs.store_drops.Goals as goal

pub returns-then-note : goal.returns-then-note
returns-then-note c =
    let a = c.args in
    let n = c.requires.1.0.live c.if-note.true in
    record { answer = sym (drops-live (reading_of a.mode.0) a.reg.0 a.x.now a.p a.in_loop (lines_of a.below.now) a.paths.now n.0 n.1); memory = refl }

pub scratch_at-requires : goal.scratch_at-requires
scratch_at-requires c = ((λ q. (c.requires.1.0.kept q).0, λ q. (c.requires.1.0.dead q).0), c.requires.1.1)

pub returns-then-scratch_at : goal.returns-then-scratch_at
returns-then-scratch_at c =
    let a = c.args in
    record { answer = sym (drops-scratch (reading_of a.mode.0) a.reg.0 a.x.now a.p a.in_loop (lines_of a.below.now) a.paths.now (sym c.scratch_at.ensures ∙ c.if-scratch_at.true)); memory = refl }

pub returns-then-in_loop : goal.returns-then-in_loop
returns-then-in_loop c =
    let a = c.args in
    record { answer = sym (drops-loop (reading_of a.mode.0) a.reg.0 a.x.now a.p a.in_loop (lines_of a.below.now) a.paths.now (sym c.scratch_at.ensures ∙ c.if-scratch_at.false) c.if-in_loop.true); memory = refl }

pub returns-then-note-eq-NOTE_STORED : goal.returns-then-note-eq-NOTE_STORED
returns-then-note-eq-NOTE_STORED c =
    let a = c.args in
    record { answer = sym (drops-kept (reading_of a.mode.0) a.reg.0 a.x.now a.p a.in_loop (lines_of a.below.now) a.paths.now (sym c.scratch_at.ensures ∙ c.if-scratch_at.false) (c.requires.1.0.kept c.if-note-eq-NOTE_STORED.true).1); memory = refl }

pub returns-then-count_reg-ne0 : goal.returns-then-count_reg-ne0
returns-then-count_reg-ne0 c =
    let a = c.args in
    record { answer = sym (drops-read (reading_of a.mode.0) a.reg.0 a.x.now a.p a.in_loop (lines_of a.below.now) a.paths.now (sym c.scratch_at.ensures ∙ c.if-scratch_at.false) c.if-in_loop.false _ c.count_reg.ensures c.if-count_reg-ne0.true); memory = refl }

pub pure_value-requires : goal.pure_value-requires
pure_value-requires c = c.requires.0.room

pub returns-then-not-pure_value : goal.returns-then-not-pure_value
returns-then-not-pure_value c =
    let a = c.args in
    record { answer = sym (drops-impure (reading_of a.mode.0) a.reg.0 a.x.now a.p a.in_loop (lines_of a.below.now) a.paths.now (sym c.scratch_at.ensures ∙ c.if-scratch_at.false) c.if-in_loop.false _ c.count_reg.ensures c.if-count_reg-ne0.false (sym c.pure_value.ensures.answer ∙ c.if-not-pure_value.true)); memory = zeroed-kept c.requires.0 c.pure_value.ensures.memory }

pub returns-then-note-eq-NOTE_DEAD : goal.returns-then-note-eq-NOTE_DEAD
returns-then-note-eq-NOTE_DEAD c =
    let a = c.args in
    record { answer = sym (c.requires.1.0.dead c.if-note-eq-NOTE_DEAD.true).1 ∙ drops-dead (reading_of a.mode.0) a.reg.0 a.x.now a.p a.in_loop (lines_of a.below.now) a.paths.now (sym c.scratch_at.ensures ∙ c.if-scratch_at.false) c.if-in_loop.false _ c.count_reg.ensures c.if-count_reg-ne0.false (sym c.pure_value.ensures.answer ∙ c.if-not-pure_value.false); memory = zeroed-kept c.requires.0 c.pure_value.ensures.memory }

pub returns : goal.returns
returns c =
    let a = c.args in
    record { answer = c.dead_below.ensures ∙ drops-dead (reading_of a.mode.0) a.reg.0 a.x.now a.p a.in_loop (lines_of a.below.now) a.paths.now (sym c.scratch_at.ensures ∙ c.if-scratch_at.false) c.if-in_loop.false _ c.count_reg.ensures c.if-count_reg-ne0.false (sym c.pure_value.ensures.answer ∙ c.if-not-pure_value.false); memory = zeroed-kept c.requires.0 c.pure_value.ensures.memory }
