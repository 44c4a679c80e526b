use native.Mathlib.Omega.{arith}
use mathlib.Core.Path.{sym, ◌∙◌}
use Rattle.po.proofs.UnitLaws.{size-in}
use Rattle.po.proofs.TextLaws.{same_stop, same-short, same-differ, same-on, same-past}
use Rattle.po.proofs.same_text.Goals as goal

pub unit_at-x-requires : goal.unit_at-x-requires
unit_at-x-requires c = tt

pub unit_at-y-requires : goal.unit_at-y-requires
unit_at-y-requires c = tt

pub returns-then-x-eq0 : goal.returns-then-x-eq0
returns-then-x-eq0 c = let a = c.args in let l = c.loop-i in same_stop a.s.now a.t.now a.q a.p l.i l.j _ c.unit_at-x.ensures _ c.unit_at-y.ensures c.if-x-eq0.true ∙ l.invariant

pub returns-then-y-eq0 : goal.returns-then-y-eq0
returns-then-y-eq0 c = let a = c.args in let l = c.loop-i in sym (same-short a.s.now a.t.now a.q a.p l.i l.j _ c.unit_at-x.ensures _ c.unit_at-y.ensures c.if-x-eq0.false c.if-y-eq0.true) ∙ l.invariant

pub returns-then-x-y : goal.returns-then-x-y
returns-then-x-y c = let a = c.args in let l = c.loop-i in sym (same-differ a.s.now a.t.now a.q a.p l.i l.j _ c.unit_at-x.ensures _ c.unit_at-y.ensures c.if-x-eq0.false c.if-y-eq0.false c.if-x-y.true) ∙ l.invariant

pub overflow_add-i : goal.overflow_add-i
overflow_add-i c = let a = c.args in let l = c.loop-i in omega (arith, size-in a.s.now a.q l.i c.unit_at-x.result c.unit_at-x.ensures c.if-x-eq0.false)

pub overflow_add-j : goal.overflow_add-j
overflow_add-j c = let a = c.args in let l = c.loop-i in omega (arith, size-in a.t.now a.p l.j c.unit_at-y.result c.unit_at-y.ensures c.if-y-eq0.false)

pub loop-i-smaller : goal.loop-i-smaller
loop-i-smaller c = omega (arith, c.if-x-eq0.false)

pub loop-i-preserved : goal.loop-i-preserved
loop-i-preserved c = let a = c.args in let l = c.loop-i in sym (same-on a.s.now a.t.now a.q a.p l.i l.j _ c.unit_at-x.ensures _ c.unit_at-y.ensures c.if-x-eq0.false c.if-y-eq0.false c.if-x-y.false) ∙ l.invariant

pub unit_at-z-requires : goal.unit_at-z-requires
unit_at-z-requires c = tt

pub returns : goal.returns
returns c = let a = c.args in let l = c.loop-i in same-past a.s.now a.t.now a.q a.p l.i l.j _ c.unit_at-z.ensures c.loop-i-test.false ∙ l.invariant
