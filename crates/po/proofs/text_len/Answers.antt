use Rattle.std.proofs.Common.{ap, length, arith}
use Rattle.po.proofs.UnitLaws.{written-le, escaped-none, escaped-length}
use Rattle.po.proofs.text_len.Goals as goal

pub overflow_add-n : goal.overflow_add-n
overflow_add-n c = let a = c.args in omega (arith, c.loop-b.invariant, c.escape_len-n.ensures, written-le a.s.now a.q, escaped-length c.in-Some.ensures.steps.1)

pub loop-b-preserved : goal.loop-b-preserved
loop-b-preserved c = omega (arith, c.loop-b.invariant, c.escape_len-n.ensures, escaped-length c.in-Some.ensures.steps.1)

pub returns : goal.returns
returns c = omega (arith, c.loop-b.invariant, ap length (escaped-none c.in-None.ensures.steps.1))
