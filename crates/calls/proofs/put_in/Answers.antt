use native.Mathlib.Omega.{arith}
use mathlib.Core.Path.{refl, sym, ◌∙◌}
use Rattle.lines.proofs.Tests.{so}
use Rattle.words.proofs.Places.{replace-hit}
use Rattle.forms.specs.Primary.{paren_if_needed}
use Rattle.forms.proofs.PrimaryLaws.{paren-length}
use Rattle.reading.specs.Reading.{plain}
use Rattle.calls.proofs.StepLaws.{put-none, put-target, put_one, as-end, as-puts}
use Rattle.calls.proofs.put_in.Goals as goal

pub returns-then-as_target : goal.returns-then-as_target
returns-then-as_target c =
    let a = c.args in
    as-end refl (put-target plain a.line.now a.reg.0 a.value.now c.in-Some.w (sym c.find_reg.ensures ∙ c.in-Some.is) (so c.as_target.ensures c.if-as_target.true))

pub put_value-n-requires : goal.put_value-n-requires
put_value-n-requires c =
    let a = c.args in
    let p = c.requires in
    let n = paren-length a.value.now c.after_new-after.result in
    omega (arith, p, n, replace-hit a.reg.0 a.line.now (paren_if_needed a.value.now c.after_new-after.result) c.in-Some.w (sym c.find_reg.ensures ∙ c.in-Some.is))

pub returns-else-as_target : goal.returns-else-as_target
returns-else-as_target c =
    let a = c.args in
    let p = c.put_value-n.ensures in
    as-puts (put_one plain a.line.now a.reg.0 a.value.now c.in-Some.w (sym c.find_reg.ensures ∙ c.in-Some.is) (so c.as_target.ensures c.if-as_target.false) _ c.after_new-after.ensures) p

pub returns-in-None : goal.returns-in-None
returns-in-None c =
    let a = c.args in
    as-end refl (put-none plain a.line.now a.reg.0 a.value.now (sym c.find_reg.ensures ∙ c.in-None.is))
