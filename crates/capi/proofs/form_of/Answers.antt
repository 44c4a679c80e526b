use borrow.Author.Tests.{eq-eqb, ne_eqb}
use Rattle.capi.proofs.form_of.Goals as goal

pub returns-then-form-eq0 : goal.returns-then-form-eq0
returns-then-form-eq0 c = rw (eq-eqb c.args.form 0 c.if-form-eq0.true)

pub returns : goal.returns
returns c = rw (ne_eqb c.args.form 0 c.if-form-eq0.false)
