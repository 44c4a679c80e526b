use mathlib.Core.Path.{sym, ap, ◌∙◌}
use mathlib.Core.Bool.{Bool, ◌||◌}
use Rattle.lines.specs.Lf.{same}
use Rattle.po.proofs.LineLaws.{empty-yes, empty-no}
use Rattle.po.proofs.reader.is_kept.Goals as goal

pub returns-then-above-eq0 : goal.returns-then-above-eq0
returns-then-above-eq0 c = let a = c.args in sym (ap (λ (b : Bool). b || same a.above.now a.name.now) (empty-yes a.above.now c.if-above-eq0.true))

pub returns : goal.returns
returns c = let a = c.args in c.same.ensures ∙ sym (ap (λ (b : Bool). b || same a.above.now a.name.now) (empty-no a.above.now c.if-above-eq0.false))
