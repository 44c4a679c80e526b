use native.Mathlib.Omega.{arith}
use mathlib.Core.Path.{◌∙◌}
use Rattle.lexical.proofs.PlainLaws.{low-empty, low-single, low-ends}
use Rattle.lexical.proofs.low_tail.Goals as goal

pub returns-then-n-eq0 : goal.returns-then-n-eq0
returns-then-n-eq0 c = c.no_tail.ensures ∙ low-empty c.args.s.now c.if-n-eq0.true

pub returns-then-n-eq1 : goal.returns-then-n-eq1
returns-then-n-eq1 c = low-single c.args.s.now c.if-n-eq1.true c.low_after.ensures

pub returns : goal.returns
returns c = low-ends c.args.s.now (omega (arith, c.if-n-eq0.false, c.if-n-eq1.false)) c.low_last-last3.ensures c.low_after-last2.ensures c.low_after-2.ensures
