use Prim.Native.Nat.{ℕ, ◌+◌}
use native.Mathlib.Omega.{arith}
use mathlib.Core.Path.{◌≡◌, sym, ap, ◌∙◌}
use Rattle.po.specs.Found.{odds}
use Rattle.po.specs.Answers.{odd_flaw}
use Rattle.po.specs.Inner.Walk.{is_odd}
use Rattle.po.proofs.UnitLaws.{size-in, odd-stop, odd-here, odd-on, odds-past}
use Rattle.po.proofs.first_odd.Goals as goal

pub loop-i-init : goal.loop-i-init
loop-i-init c = let a = c.args in let z : a.a + 0 ≡ a.a = omega arith in ap (λ (n : ℕ). odd_flaw (odds a.s.now a.q n)) z

pub unit_at-x-requires : goal.unit_at-x-requires
unit_at-x-requires c = tt

pub returns-then-x-eq0 : goal.returns-then-x-eq0
returns-then-x-eq0 c = let a = c.args in let l = c.loop-i in sym (odd-stop a.s.now a.q a.a l.i _ c.unit_at-x.ensures c.if-x-eq0.true) ∙ l.invariant

pub byte_at-requires : goal.byte_at-requires
byte_at-requires c = tt

pub is_odd-requires : goal.is_odd-requires
is_odd-requires c = tt

pub overflow_add-result : goal.overflow_add-result
overflow_add-result c = omega (arith, c.requires)

pub returns-then-is_odd : goal.returns-then-is_odd
returns-then-is_odd c = let a = c.args in let l = c.loop-i in let u = c.unit_at-x in sym (odd-here a.s.now a.q a.a l.i u.result u.ensures c.if-x-eq0.false (ap (is_odd u.result.size) (sym c.byte_at.ensures) ∙ sym c.is_odd.ensures ∙ c.if-is_odd.true)) ∙ l.invariant

pub overflow_add-i-in-loop-i : goal.overflow_add-i-in-loop-i
overflow_add-i-in-loop-i c = let a = c.args in let l = c.loop-i in let u = c.unit_at-x in omega (arith, size-in a.s.now a.q l.i u.result u.ensures c.if-x-eq0.false)

pub loop-i-smaller : goal.loop-i-smaller
loop-i-smaller c = omega (arith, c.if-x-eq0.false)

pub loop-i-preserved : goal.loop-i-preserved
loop-i-preserved c = let a = c.args in let l = c.loop-i in let u = c.unit_at-x in sym (odd-on a.s.now a.q a.a l.i u.result u.ensures c.if-x-eq0.false (ap (is_odd u.result.size) (sym c.byte_at.ensures) ∙ sym c.is_odd.ensures ∙ c.if-is_odd.false)) ∙ l.invariant

pub returns : goal.returns
returns c = let a = c.args in let l = c.loop-i in sym (ap odd_flaw (odds-past a.s.now a.q l.i (a.a + l.i) c.loop-i-test.false)) ∙ l.invariant
