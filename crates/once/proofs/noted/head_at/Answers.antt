use mathlib.Core.Path.{sym, ap, ◌∙◌}
use mathlib.Core.Bool.{Bool, cond}
use Rattle.once.proofs.noted.head_at.Goals as goal

pub returns-then-is_header : goal.returns-then-is_header
returns-then-is_header c = let a = c.args in sym (ap (λ (b : Bool). cond b a.m a.h) (sym c.is_header.ensures ∙ c.if-is_header.true))

pub returns : goal.returns
returns c = let a = c.args in sym (ap (λ (b : Bool). cond b a.m a.h) (sym c.is_header.ensures ∙ c.if-is_header.false))
