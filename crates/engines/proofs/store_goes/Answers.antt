use mathlib.Core.Path.{refl, sym, ◌∙◌}
use Rattle.reading.specs.Reading.{reading_of}
use Rattle.lines.specs.Lf.{lines_of}
use Rattle.once.proofs.Zeros.{zeroed-kept}
use Rattle.once.proofs.Decides.{drops-scratch, drops-loop, drops-read, drops-impure, drops-dead}
use Rattle.engines.proofs.store_goes.Goals as goal

pub returns-then-is_scratch : goal.returns-then-is_scratch
returns-then-is_scratch c =
    let a = c.args in
    record { answer = sym (drops-scratch (reading_of a.mode.0) a.reg.0 a.x.now a.p a.in_loop (lines_of a.below.now) a.paths.now (sym c.is_scratch.ensures ∙ c.if-is_scratch.true)); memory = refl }

pub returns-then-in_loop : goal.returns-then-in_loop
returns-then-in_loop c =
    let a = c.args in
    record { answer = sym (drops-loop (reading_of a.mode.0) a.reg.0 a.x.now a.p a.in_loop (lines_of a.below.now) a.paths.now (sym c.is_scratch.ensures ∙ c.if-is_scratch.false) c.if-in_loop.true); memory = refl }

pub returns-then-count_reg-ne0 : goal.returns-then-count_reg-ne0
returns-then-count_reg-ne0 c =
    let a = c.args in
    record { answer = sym (drops-read (reading_of a.mode.0) a.reg.0 a.x.now a.p a.in_loop (lines_of a.below.now) a.paths.now (sym c.is_scratch.ensures ∙ c.if-is_scratch.false) c.if-in_loop.false _ c.count_reg.ensures c.if-count_reg-ne0.true); memory = refl }

pub pure_value-requires : goal.pure_value-requires
pure_value-requires c = c.requires.room

pub returns-then-not-pure_value : goal.returns-then-not-pure_value
returns-then-not-pure_value c =
    let a = c.args in
    record { answer = sym (drops-impure (reading_of a.mode.0) a.reg.0 a.x.now a.p a.in_loop (lines_of a.below.now) a.paths.now (sym c.is_scratch.ensures ∙ c.if-is_scratch.false) c.if-in_loop.false _ c.count_reg.ensures c.if-count_reg-ne0.false (sym c.pure_value.ensures.answer ∙ c.if-not-pure_value.true)); memory = zeroed-kept c.requires c.pure_value.ensures.memory }

pub returns : goal.returns
returns c =
    let a = c.args in
    record { answer = c.dead_below.ensures ∙ drops-dead (reading_of a.mode.0) a.reg.0 a.x.now a.p a.in_loop (lines_of a.below.now) a.paths.now (sym c.is_scratch.ensures ∙ c.if-is_scratch.false) c.if-in_loop.false _ c.count_reg.ensures c.if-count_reg-ne0.false (sym c.pure_value.ensures.answer ∙ c.if-not-pure_value.false); memory = zeroed-kept c.requires c.pure_value.ensures.memory }
