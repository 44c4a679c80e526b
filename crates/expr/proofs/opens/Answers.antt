use Rattle.expr.specs.Pure.{openings}
use Rattle.expr.proofs.SpaceLaws.{three}
use Rattle.expr.proofs.opens.Goals as goal

pub returns-then-b : goal.returns-then-b
unfolding openings
returns-then-b c = rw (three 40 91 123 c.args.b, c.if-b.true)

pub returns : goal.returns
unfolding openings
returns c = rw (three 40 91 123 c.args.b, c.if-b.false)
