use native.Mathlib.Omega.{arith}
use mathlib.Core.Path.{sym, ◌∙◌}
use Rattle.po.proofs.UnitLaws.{size-in, closed-here, closed_on, closed-past}
use Rattle.po.proofs.is_closed.Goals as goal

pub unit_at-x-requires : goal.unit_at-x-requires
unit_at-x-requires c = tt

pub returns-then-x-eq0 : goal.returns-then-x-eq0
returns-then-x-eq0 c = let a = c.args in let l = c.loop-i in sym (closed-here a.s.now a.q l.i _ c.unit_at-x.ensures c.loop-i-test.true c.if-x-eq0.true) ∙ l.invariant

pub overflow_add-i : goal.overflow_add-i
overflow_add-i c = let a = c.args in let l = c.loop-i in omega (arith, size-in a.s.now a.q l.i c.unit_at-x.result c.unit_at-x.ensures c.if-x-eq0.false)

pub loop-i-smaller : goal.loop-i-smaller
loop-i-smaller c = omega (arith, c.if-x-eq0.false)

pub loop-i-preserved : goal.loop-i-preserved
loop-i-preserved c = let a = c.args in let l = c.loop-i in sym (closed_on a.s.now a.q l.i _ c.unit_at-x.ensures c.if-x-eq0.false) ∙ l.invariant

pub returns : goal.returns
returns c = let a = c.args in let l = c.loop-i in sym (closed-past a.s.now a.q l.i c.loop-i-test.false) ∙ l.invariant
