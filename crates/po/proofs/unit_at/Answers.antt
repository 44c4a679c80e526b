use native.Mathlib.Omega.{arith}
use mathlib.Core.Path.{◌∙◌, sym, ap}
use Rattle.po.specs.Inner.Walk.{unit}
use Rattle.po.proofs.UnitLaws.{unit-none, unit-last, unit-pair, unit-single}
use Rattle.po.proofs.unit_at.Goals as goal

pub returns-then-s-i : goal.returns-then-s-i
returns-then-s-i c = let a = c.args in c.unit_of.ensures ∙ sym (unit-none a.s.now a.i a.q c.if-s-i.true)

pub returns-then-s-next : goal.returns-then-s-next
returns-then-s-next c = let a = c.args in c.single.ensures ∙ sym (unit-last a.s.now a.i a.q (omega arith) c.if-s-next.true)

pub returns-then-x-eq92 : goal.returns-then-x-eq92
returns-then-x-eq92 c = let a = c.args in c.unit_of-then-x-eq92.ensures ∙ ap (unit 2) c.plain_of.ensures ∙ sym (unit-pair a.s.now a.i a.q (omega arith) c.if-x-eq92.true)

pub returns : goal.returns
returns c = let a = c.args in c.single-2.ensures ∙ sym (unit-single a.s.now a.i a.q (omega arith) c.if-x-eq92.false)
