use borrow.Author.Tests.{eq-eqb, ne_eqb}
use Rattle.reader.proofs.went_by.Goals as goal

pub returns-then-k-eq-EQUAL : goal.returns-then-k-eq-EQUAL
returns-then-k-eq-EQUAL c = rw (eq-eqb c.args.k 0 c.if-k-eq-EQUAL.true)

pub returns-then-k-eq-CHANGED : goal.returns-then-k-eq-CHANGED
returns-then-k-eq-CHANGED c = rw (ne_eqb c.args.k 0 c.if-k-eq-EQUAL.false, eq-eqb c.args.k 1 c.if-k-eq-CHANGED.true)

pub returns-then-k-eq-INSIDE : goal.returns-then-k-eq-INSIDE
returns-then-k-eq-INSIDE c = rw (ne_eqb c.args.k 0 c.if-k-eq-EQUAL.false, ne_eqb c.args.k 1 c.if-k-eq-CHANGED.false, eq-eqb c.args.k 2 c.if-k-eq-INSIDE.true)

pub returns : goal.returns
returns c = rw (ne_eqb c.args.k 0 c.if-k-eq-EQUAL.false, ne_eqb c.args.k 1 c.if-k-eq-CHANGED.false, ne_eqb c.args.k 2 c.if-k-eq-INSIDE.false)
