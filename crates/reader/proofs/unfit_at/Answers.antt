use Rattle.std.proofs.Common.{◌∙◌, ap}
use Rattle.lines.proofs.Tests.{so}
use Rattle.origins.specs.Form.{form_shape}
use Rattle.reader.specs.Replies.{wents_in}
use Rattle.reader.proofs.Laws.{fit-begin, fit-bad, fit_on, fit-end, each-all}
use Rattle.reader.proofs.unfit_at.Goals as goal

pub loop-i-init : goal.loop-i-init
loop-i-init c =
    let a = c.args in
    let it = c.into_iter-i-iterator.ensures.into_iter_gives in
    let e = c.enumerate-i-items.ensures in
    fit-begin (form_shape a.g) (wents_in (form_shape a.f) a.file.now) (ap (λ s. s.count) it ∙ e.count)
    (each-all a.f a.file.now (ap (λ s. s.iter) it ∙ e.source) c.each.ensures.form c.each.ensures.bytes)

pub returns-then-not-fits_in : goal.returns-then-not-fits_in
returns-then-not-fits_in c = let h = c.in-Some.ensures.steps in fit-bad c.loop-i.invariant h.0 h.1 (so c.fits_in.ensures c.if-not-fits_in.true)

pub loop-i-preserved : goal.loop-i-preserved
loop-i-preserved c = let h = c.in-Some.ensures.steps in fit_on c.loop-i.invariant h.0 h.1 h.2 (so c.fits_in.ensures c.if-not-fits_in.false)

pub returns : goal.returns
returns c = fit-end c.loop-i.invariant c.in-None.ensures.steps.0.0 c.requires
