use mathlib.Core.Path.{refl, ap}
use mathlib.Core.Bool.{not}
use borrow.Author.Tests.{ne_eqb}
use Rattle.po.proofs.is_odd.Goals as goal

pub returns-then-n-eq2 : goal.returns-then-n-eq2
returns-then-n-eq2 c = rw c.if-n-eq2.true (ap not c.is_escape.ensures)

pub returns : goal.returns
returns c = rw (ne_eqb _ 2 c.if-n-eq2.false) refl
