use native.Mathlib.Omega.{arith}
use mathlib.Core.Path.{refl, sym, ◌∙◌}
use borrow.Author.Tests.{eqb-true}
use Rattle.lines.proofs.Tests.{no}
use Rattle.parse.proofs.Shut.{names-last, names-on}
use Rattle.parse.proofs.plain_names.Goals as goal

pub loop-i-init : goal.loop-i-init
loop-i-init c = (c.requires.0, refl)

pub plain_name-e-requires : goal.plain_name-e-requires
plain_name-e-requires c = (c.loop-i.invariant.0, c.requires.1)

pub returns-then-e-i : goal.returns-then-e-i
returns-then-e-i c = λ h. no h

pub bounds-t-e : goal.bounds-t-e
bounds-t-e c = let k = c.plain_name-e.ensures c.if-e-i.false in k.0

pub overflow_add-result : goal.overflow_add-result
overflow_add-result c = let k = c.plain_name-e.ensures c.if-e-i.false in omega (arith, k.0)

pub returns-then-t-e-ne44 : goal.returns-then-t-e-ne44
returns-then-t-e-ne44 c =
    let l = c.loop-i in
    let a = c.before.before.before.before.before.before in
    let n = c.plain_name-e in
    λ h. sym l.invariant.1 ∙ names-last a.args.t.now a.requires.1 l.i n.result l.invariant.0 (n.ensures c.if-e-i.false) (eqb-true _ _ h)

pub overflow_add-i : goal.overflow_add-i
overflow_add-i c = let k = c.plain_name-e.ensures c.if-e-i.false in omega (arith, k.0)

pub loop-i-smaller : goal.loop-i-smaller
loop-i-smaller c = omega (arith, c.loop-i.invariant.0, c.if-e-i.false)

pub loop-i-preserved : goal.loop-i-preserved
loop-i-preserved c =
    let l = c.loop-i in
    let a = c.before.before.before.before.before.before in
    let n = c.plain_name-e in
    let k = names-on a.args.t.now a.requires.1 l.i n.result l.invariant.0 (n.ensures c.if-e-i.false) c.if-t-e-ne44.false in
    (k.0, sym k.1 ∙ l.invariant.1)
