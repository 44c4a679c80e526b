use native.Mathlib.Omega.{arith}
use Rattle.parse.proofs.Shut.{not_last, name-to}
use Rattle.parse.proofs.plain_name.Goals as goal

pub past_space-a-requires : goal.past_space-a-requires
past_space-a-requires c = c.requires

pub bounds-t-a : goal.bounds-t-a
bounds-t-a c = c.past_space-a.ensures.1

pub returns-then-t-a-ne114 : goal.returns-then-t-a-ne114
returns-then-t-a-ne114 c = λ h. absurd (omega arith)

pub overflow_add-a : goal.overflow_add-a
overflow_add-a c = omega (arith, c.past_space-a.ensures.1)

pub digits_to-e-requires : goal.digits_to-e-requires
digits_to-e-requires c =
    let f = c.before.before.before.before in
    let p = c.past_space-a in
    (not_last f.args.t.now f.requires.1 p.result p.ensures.1 (λ z. absurd (omega (arith, c.if-t-a-ne114.false))), f.requires.1)

pub overflow_sub-e : goal.overflow_sub-e
overflow_sub-e c = omega (arith, c.digits_to-e.ensures.0)

pub returns-then-e-a-lt2 : goal.returns-then-e-a-lt2
returns-then-e-a-lt2 c = λ h. absurd (omega arith)

pub overflow_sub-e-2 : goal.overflow_sub-e-2
overflow_sub-e-2 c = omega (arith, c.digits_to-e.ensures.0)

pub returns-then-e-a-gt10 : goal.returns-then-e-a-gt10
returns-then-e-a-gt10 c = λ h. absurd (omega arith)

pub returns : goal.returns
returns c =
    let f = c.before.before.before.before.before.before.before in
    let p = c.past_space-a in
    let d = c.digits_to-e in
    λ h. name-to f.args.t.now f.requires.1 f.args.i p.result d.result p.ensures.0 c.if-t-a-ne114.false d.ensures c.if-e-a-lt2.false c.if-e-a-gt10.false
