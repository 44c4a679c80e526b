use native.Mathlib.Omega.{arith}
use Rattle.names.proofs.Digits.{zeros-stop, zeros-on, zeros-end}
use Rattle.names.proofs.skip_zeros.Goals as goal

pub returns-then-s-i-ne48 : goal.returns-then-s-i-ne48
returns-then-s-i-ne48 c = omega (arith, zeros-stop c.args.s.now c.loop-i.i (omega arith) c.if-s-i-ne48.true)

pub loop-i-preserved : goal.loop-i-preserved
loop-i-preserved c = omega (arith, zeros-on c.args.s.now c.loop-i.i (omega arith) c.if-s-i-ne48.false)

pub returns : goal.returns
returns c = omega (arith, zeros-end c.args.s.now c.loop-i.i (omega arith))
