use Rattle.lines.proofs.Tests.{so}
use Rattle.place.proofs.Regions.{neither-head, function-head, other-head}
use Rattle.place.proofs.opens_region.Goals as goal

pub returns-then-begins_function : goal.returns-then-begins_function
returns-then-begins_function c = function-head c.args.line.now (so c.begins_function.ensures c.if-begins_function.true)

pub returns-then-not-x : goal.returns-then-not-x
returns-then-not-x c = neither-head c.args.line.now c.byte_at-x.result (so c.begins_function.ensures c.if-begins_function.false) c.byte_at-x.ensures c.if-not-x.true

pub returns : goal.returns
returns c = rw (c.starts_with.ensures, c.starts_with-2.ensures, c.starts_with-3.ensures, c.starts_with-4.ensures, c.starts_with-5.ensures) (other-head c.args.line.now (so c.begins_function.ensures c.if-begins_function.false))
