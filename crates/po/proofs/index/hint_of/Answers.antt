use native.Mathlib.Omega.{arith}
use mathlib.Core.Path.{sym, ◌∙◌}
use Rattle.po.specs.Found.{decoded}
use Rattle.po.proofs.IndexLaws.{hint-past, hint-yes, hint-no}
use Rattle.po.proofs.index.hint_of.Goals as goal

pub overflow_add-result : goal.overflow_add-result
overflow_add-result c = omega (arith)

pub returns-then-t-p : goal.returns-then-t-p
returns-then-t-p c = let a = c.args in hint-past a.t.now a.p (decoded a.s.now a.q) c.if-t-p.true

pub is_at-requires : goal.is_at-requires
is_at-requires c = omega (arith, c.if-t-p.false)

pub overflow_add-result-then-is_at : goal.overflow_add-result-then-is_at
overflow_add-result-then-is_at c = omega (arith, c.if-t-p.false)

pub returns-then-is_at : goal.returns-then-is_at
returns-then-is_at c = let a = c.args in hint-yes a.t.now a.p (decoded a.s.now a.q) c.if-t-p.false (sym c.is_at.ensures ∙ c.if-is_at.true)

pub overflow_add-result-2 : goal.overflow_add-result-2
overflow_add-result-2 c = omega (arith)

pub returns : goal.returns
returns c = let a = c.args in hint-no a.t.now a.p (decoded a.s.now a.q) c.if-t-p.false (sym c.is_at.ensures ∙ c.if-is_at.false)
