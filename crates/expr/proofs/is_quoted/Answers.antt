use mathlib.Core.Path.{sym, ap, ◌∙◌}
use mathlib.Core.Bool.{Bool}
use Rattle.expr.specs.Pure.{quoted_in}
use Rattle.expr.proofs.is_quoted.Goals as goal

pub returns-then-strict : goal.returns-then-strict
returns-then-strict c = c.is_closed.ensures ∙ ap (λ (b : Bool). quoted_in b c.args.t.now) (sym c.if-strict.true)

pub returns : goal.returns
returns c = rw (c.wrapped.ensures, c.wrapped-2.ensures) (ap (λ (b : Bool). quoted_in b c.args.t.now) (sym c.if-strict.false))
