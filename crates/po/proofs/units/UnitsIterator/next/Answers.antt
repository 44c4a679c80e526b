use Rattle.std.proofs.Common.{refl, ap, length, arith, length-drop}
use Rattle.po.proofs.UnitLaws.{unit-ends, unit-left, unit-in, unit-gives}
use Rattle.po.proofs.units.UnitsIterator.next.Goals as goal

pub returns-then-x-eq0-clause-steps : goal.returns-then-x-eq0-clause-steps
returns-then-x-eq0-clause-steps c = let u = c.unit_at-x in (refl, unit-ends _ _ u.result u.ensures c.if-x-eq0.true)

pub slice_bounds-self-count : goal.slice_bounds-self-count
slice_bounds-self-count c = let u = c.unit_at-x in unit-in _ _ u.result u.ensures

pub slice_bounds-self-start : goal.slice_bounds-self-start
slice_bounds-self-start c = let u = c.unit_at-x in omega (arith, unit-in _ _ u.result u.ensures)

pub returns-clause-steps : goal.returns-clause-steps
returns-clause-steps c = let u = c.unit_at-x in (refl, unit-gives _ _ u.result u.ensures c.if-x-eq0.false)

pub returns-clause-goes : goal.returns-clause-goes
returns-clause-goes c =
    let u = c.unit_at-x in
    let l = c.args.self.now.rest.now in
    let n = c.if-x-eq0.false in
    record { on = λ _. (tt, tt, omega (arith, n, ap length (unit-left _ _ u.result u.ensures), length-drop u.result.size l, unit-in _ _ u.result u.ensures)); keeps = tt; rests = λ _. tt }
