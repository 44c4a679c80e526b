use borrow.Author.Tests.{eq-eqb, ne_eqb}
use Rattle.po.proofs.single.Goals as goal

pub returns-then-x-q : goal.returns-then-x-q
returns-then-x-q c = rw (eq-eqb _ _ c.if-x-q.true) c.unit_of.ensures

pub returns : goal.returns
returns c = rw (ne_eqb _ _ c.if-x-q.false) c.unit_of-2.ensures
