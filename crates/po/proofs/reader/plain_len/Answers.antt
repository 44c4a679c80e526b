use Rattle.std.proofs.Common.{ap, length, arith}
use Rattle.po.proofs.UnitLaws.{text-le}
use Rattle.po.proofs.reader.plain_len.Goals as goal

pub overflow_add-n : goal.overflow_add-n
overflow_add-n c = let a = c.args in omega (arith, c.loop.invariant, text-le a.s.now a.q)

pub loop-preserved : goal.loop-preserved
loop-preserved c = omega (arith, c.loop.invariant, ap length c.in-Some.ensures.steps.1)

pub returns : goal.returns
returns c = omega (arith, c.loop.invariant, ap length c.in-None.ensures.steps.1)
