use mathlib.Core.Path.{sym, subst}
use native.Mathlib.Omega.{arith}
use Rattle.once.specs.Inner.Noted.{StartOf}
use Rattle.once.proofs.BackLaws.{start_of, start_first, start-after}
use Rattle.once.proofs.noted.start_at.Goals as goal

pub returns-then-k-eq0 : goal.returns-then-k-eq0
returns-then-k-eq0 c = start_first c.args.text.now c.args.e c.args.k c.requires.0.0 c.requires.0.1 c.requires.1.0 c.if-k-eq0.true

pub returns-then-m-eq0 : goal.returns-then-m-eq0
returns-then-m-eq0 c = subst (StartOf c.args.text.now c.args.e) (sym c.line_start.ensures) (start_of c.args.text.now c.args.e c.requires.0.0 c.requires.0.1)

pub overflow_add-result : goal.overflow_add-result
overflow_add-result c =
    let s = start-after c.args.text.now c.args.e c.args.k c.requires.0.0 c.requires.0.1 c.requires.1.0 c.args.ends.now c.entry-m.result c.requires.1.1 c.if-k-eq0.false c.entry-m.ensures c.if-m-eq0.false in
    omega (arith, s.0, c.requires.0.0)

pub returns : goal.returns
returns c = start-after c.args.text.now c.args.e c.args.k c.requires.0.0 c.requires.0.1 c.requires.1.0 c.args.ends.now c.entry-m.result c.requires.1.1 c.if-k-eq0.false c.entry-m.ensures c.if-m-eq0.false
