use mathlib.Core.Path.{sym, ap, ◌∙◌}
use Rattle.lines.proofs.Tests.{so}
use Rattle.forms.specs.Primary.{primary}
use Rattle.forms.proofs.PrimaryLaws.{primary-none, primary-unary, primary-keyword, primary-walk}
use Rattle.forms.proofs.is_primary_expr.Goals as goal

pub trim-t-requires : goal.trim-t-requires
trim-t-requires c = tt

pub returns-then-t-eq0 : goal.returns-then-t-eq0
returns-then-t-eq0 c = sym (sym (ap primary c.trim-t.ensures.0) ∙ primary-none _ c.if-t-eq0.true)

pub is_unary-requires : goal.is_unary-requires
is_unary-requires c = tt

pub returns-then-is_unary : goal.returns-then-is_unary
returns-then-is_unary c = sym (sym (ap primary c.trim-t.ensures.0) ∙ primary-unary _ c.if-t-eq0.false (so c.is_unary.ensures c.if-is_unary.true))

pub starts_keyword-requires : goal.starts_keyword-requires
starts_keyword-requires c = tt

pub returns-then-starts_keyword : goal.returns-then-starts_keyword
returns-then-starts_keyword c = sym (sym (ap primary c.trim-t.ensures.0) ∙ primary-keyword _ c.if-t-eq0.false (so c.is_unary.ensures c.if-is_unary.false) (so c.starts_keyword.ensures c.if-starts_keyword.true))

pub no_operator-requires : goal.no_operator-requires
no_operator-requires c = tt

pub returns : goal.returns
returns c = c.no_operator.ensures ∙ sym (sym (ap primary c.trim-t.ensures.0) ∙ primary-walk _ c.if-t-eq0.false (so c.is_unary.ensures c.if-is_unary.false) (so c.starts_keyword.ensures c.if-starts_keyword.false))
