use mathlib.Core.Path.{refl}
use borrow.Author.Tests.{ne_eqb}
use Rattle.po.proofs.plain_of.Goals as goal

pub returns-then-y-eq110 : goal.returns-then-y-eq110
returns-then-y-eq110 c = rw c.if-y-eq110.true refl

pub returns-then-y-eq116 : goal.returns-then-y-eq116
returns-then-y-eq116 c = rw (ne_eqb c.args.y 110 c.if-y-eq110.false, c.if-y-eq116.true) refl

pub returns : goal.returns
returns c = rw (ne_eqb c.args.y 110 c.if-y-eq110.false, ne_eqb c.args.y 116 c.if-y-eq116.false) refl
