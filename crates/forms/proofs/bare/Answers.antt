use Rattle.forms.specs.Primary.{bare}
use Rattle.forms.proofs.bare.Goals as goal

pub is_plain_ref-requires : goal.is_plain_ref-requires
is_plain_ref-requires c = tt

pub returns-then-after_new : goal.returns-then-after_new
unfolding bare
returns-then-after_new c = rw c.if-after_new.true c.is_plain_ref.ensures

pub is_primary_expr-requires : goal.is_primary_expr-requires
is_primary_expr-requires c = tt

pub returns : goal.returns
unfolding bare
returns c = rw c.if-after_new.false c.is_primary_expr.ensures
