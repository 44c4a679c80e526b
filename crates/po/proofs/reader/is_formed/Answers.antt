use native.Mathlib.Omega.{arith}
use mathlib.Core.Path.{sym, ◌∙◌}
use Rattle.po.proofs.UnitLaws.{size-in}
use Rattle.po.proofs.LineLaws.{form-stop, form-no, form-on, form-past}
use Rattle.po.proofs.reader.is_formed.Goals as goal

pub unit_at-x-requires : goal.unit_at-x-requires
unit_at-x-requires c = tt

pub overflow_add-result : goal.overflow_add-result
overflow_add-result c = omega (arith, c.loop-i-test.true)

pub returns-then-x-eq0 : goal.returns-then-x-eq0
returns-then-x-eq0 c = let a = c.args in let l = c.loop-i in form-stop a.l.now l.i _ c.unit_at-x.ensures c.loop-i-test.true c.if-x-eq0.true ∙ l.invariant

pub escape_at-requires : goal.escape_at-requires
escape_at-requires c = c.loop-i-test.true

pub returns-then-not-escape_at : goal.returns-then-not-escape_at
returns-then-not-escape_at c = let a = c.args in let l = c.loop-i in sym (form-no a.l.now l.i _ c.unit_at-x.ensures c.if-x-eq0.false (sym c.escape_at.ensures ∙ c.if-not-escape_at.true)) ∙ l.invariant

pub overflow_add-i : goal.overflow_add-i
overflow_add-i c = let a = c.args in let l = c.loop-i in omega (arith, size-in a.l.now 34 l.i c.unit_at-x.result c.unit_at-x.ensures c.if-x-eq0.false)

pub loop-i-smaller : goal.loop-i-smaller
loop-i-smaller c = omega (arith, c.if-x-eq0.false)

pub loop-i-preserved : goal.loop-i-preserved
loop-i-preserved c = let a = c.args in let l = c.loop-i in sym (form-on a.l.now l.i _ c.unit_at-x.ensures c.if-x-eq0.false (sym c.escape_at.ensures ∙ c.if-not-escape_at.false)) ∙ l.invariant

pub returns : goal.returns
returns c = let a = c.args in let l = c.loop-i in sym (form-past a.l.now l.i c.loop-i-test.false) ∙ l.invariant
