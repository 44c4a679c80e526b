use mathlib.Core.Path.{sym, ap, ◌∙◌}
use mathlib.Core.Bool.{Bool, ◌&&◌}
use Rattle.po.specs.Inner.ReadWalk.{follows}
use Rattle.po.proofs.reader.is_ref.Goals as goal

pub returns-then-is_reference : goal.returns-then-is_reference
returns-then-is_reference c = let a = c.args in c.is_next.ensures ∙ sym (ap (λ (b : Bool). b && follows a.name.now a.least a.l.now) (sym c.is_reference.ensures ∙ c.if-is_reference.true))

pub returns : goal.returns
returns c = let a = c.args in sym (ap (λ (b : Bool). b && follows a.name.now a.least a.l.now) (sym c.is_reference.ensures ∙ c.if-is_reference.false))
