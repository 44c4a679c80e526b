use Rattle.expr.specs.Pure.{closings}
use Rattle.expr.proofs.SpaceLaws.{three}
use Rattle.expr.proofs.closes.Goals as goal

pub returns-then-b : goal.returns-then-b
unfolding closings
returns-then-b c = rw (three 41 93 125 c.args.b, c.if-b.true)

pub returns : goal.returns
unfolding closings
returns c = rw (three 41 93 125 c.args.b, c.if-b.false)
