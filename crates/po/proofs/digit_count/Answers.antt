use native.Mathlib.Omega.{arith}
use Rattle.po.proofs.DigitLaws.{count-start, count-on, count_fits, count-end}
use Rattle.po.proofs.digit_count.Goals as goal

pub loop-m-init : goal.loop-m-init
loop-m-init c = count-start c.args.n (omega arith)

pub overflow_add-k : goal.overflow_add-k
overflow_add-k c = omega (arith, count_fits c.loop-m.invariant)

pub loop-m-preserved : goal.loop-m-preserved
loop-m-preserved c = count-on c.loop-m.invariant c.loop-m-test.true

pub returns : goal.returns
returns c = count-end c.loop-m.invariant c.loop-m-test.false
