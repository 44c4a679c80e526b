use native.Mathlib.Omega.{arith}
use Rattle.lines.proofs.Tests.{so}
use Rattle.calls.proofs.Wipes.{size-ended, size-empty, size-open}
use Rattle.calls.proofs.whole_size.Goals as goal

pub ends_lf-requires : goal.ends_lf-requires
ends_lf-requires c = tt

pub returns-then-ends_lf : goal.returns-then-ends_lf
returns-then-ends_lf c = size-ended c.args.text.now (so c.ends_lf.ensures c.if-ends_lf.true)

pub returns-then-n-eq0 : goal.returns-then-n-eq0
returns-then-n-eq0 c = size-empty c.args.text.now c.if-n-eq0.true

pub overflow_add-result : goal.overflow_add-result
overflow_add-result c = omega (arith)

pub returns : goal.returns
returns c = size-open c.args.text.now (so c.ends_lf.ensures c.if-ends_lf.false) c.if-n-eq0.false
