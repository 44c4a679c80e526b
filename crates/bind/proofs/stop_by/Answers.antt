use mathlib.Core.Path.{sym, ◌∙◌}
use native.Mathlib.Omega.{arith}
use Rattle.bind.proofs.Turns.{stop-on, stop-here, stop-end}
use Rattle.bind.proofs.stop_by.Goals as goal

pub offset_bounds-ends-i : goal.offset_bounds-ends-i
offset_bounds-ends-i c = omega (arith, c.loop-i-test.true, c.requires)

pub bounds-ends-i : goal.bounds-ends-i
bounds-ends-i c = omega (arith, c.loop-i-test.true, c.requires)

pub returns-then-x-eq1 : goal.returns-then-x-eq1
returns-then-x-eq1 c = let a = c.args in sym (c.loop-i.invariant ∙ stop-here a.ends.now a.len a.n c.loop-i.i c.loop-i.p c.loop-i-test.true c.if-x-eq1.true)

pub overflow_add-p : goal.overflow_add-p
overflow_add-p c = omega (arith, c.shared_slice_known-1.given c.loop-i.i)

pub loop-i-preserved : goal.loop-i-preserved
loop-i-preserved c = let a = c.args in c.loop-i.invariant ∙ stop-on a.ends.now a.len a.n c.loop-i.i c.loop-i.p c.loop-i-test.true c.if-x-eq1.false

pub returns : goal.returns
returns c = let a = c.args in sym (c.loop-i.invariant ∙ stop-end a.ends.now a.len a.n c.loop-i.i c.loop-i.p c.loop-i-test.false)
