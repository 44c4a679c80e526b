use mathlib.Core.Path.{refl, sym, ◌∙◌}
use Rattle.lines.specs.Lf.{lines_of}
use Rattle.place.specs.Region.{region}
use Rattle.reading.specs.Reading.{reading_of}
use Rattle.once.proofs.Zeros.{zeroed-kept}
use Rattle.once.proofs.Decides.{forwards-loop, forwards-gone, forwards-unsent, forwards-impure, forwards-hit, forwards-once}
use Rattle.once.proofs.store_forwards.Goals as goal

pub returns-then-in_loop : goal.returns-then-in_loop
returns-then-in_loop c =
    let a = c.args in
    record { answer = sym (forwards-loop (reading_of a.mode.0) a.reg.0 a.x.now (region (lines_of a.run.now)) a.in_loop a.gone a.next.now (lines_of a.below.now) c.if-in_loop.true); memory = refl }

pub returns-then-gone : goal.returns-then-gone
returns-then-gone c =
    let a = c.args in
    record { answer = sym (forwards-gone (reading_of a.mode.0) a.reg.0 a.x.now (region (lines_of a.run.now)) a.in_loop a.gone a.next.now (lines_of a.below.now) c.if-in_loop.false c.if-gone.true); memory = refl }

pub returns-then-not-sent_to : goal.returns-then-not-sent_to
returns-then-not-sent_to c =
    let a = c.args in
    record { answer = sym (forwards-unsent (reading_of a.mode.0) a.reg.0 a.x.now (region (lines_of a.run.now)) a.in_loop a.gone a.next.now (lines_of a.below.now) c.if-in_loop.false c.if-gone.false (sym c.sent_to.ensures ∙ c.if-not-sent_to.true)); memory = refl }

pub pure_value-requires : goal.pure_value-requires
pure_value-requires c = c.requires.0.room

pub returns-then-not-pure_value : goal.returns-then-not-pure_value
returns-then-not-pure_value c =
    let a = c.args in
    record { answer = sym (forwards-impure (reading_of a.mode.0) a.reg.0 a.x.now (region (lines_of a.run.now)) a.in_loop a.gone a.next.now (lines_of a.below.now) c.if-in_loop.false c.if-gone.false (sym c.sent_to.ensures ∙ c.if-not-sent_to.false) (sym c.pure_value.ensures.answer ∙ c.if-not-pure_value.true)); memory = zeroed-kept c.requires.0 c.pure_value.ensures.memory }

pub returns-then-not-takes : goal.returns-then-not-takes
returns-then-not-takes c =
    let a = c.args in
    record { answer = sym (forwards-hit (reading_of a.mode.0) a.reg.0 a.x.now (region (lines_of a.run.now)) a.in_loop a.gone a.next.now (lines_of a.below.now) c.if-in_loop.false c.if-gone.false (sym c.sent_to.ensures ∙ c.if-not-sent_to.false) (sym c.pure_value.ensures.answer ∙ c.if-not-pure_value.false) (sym c.takes.ensures ∙ c.if-not-takes.true)); memory = zeroed-kept c.requires.0 c.pure_value.ensures.memory }

pub returns : goal.returns
returns c =
    let a = c.args in
    record { answer = c.once_in.ensures ∙ forwards-once (reading_of a.mode.0) a.reg.0 a.x.now (region (lines_of a.run.now)) a.in_loop a.gone a.next.now (lines_of a.below.now) c.if-in_loop.false c.if-gone.false (sym c.sent_to.ensures ∙ c.if-not-sent_to.false) (sym c.pure_value.ensures.answer ∙ c.if-not-pure_value.false) (sym c.takes.ensures ∙ c.if-not-takes.false); memory = zeroed-kept c.requires.0 c.pure_value.ensures.memory }
