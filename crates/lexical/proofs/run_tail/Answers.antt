use native.Mathlib.Omega.{arith}
use mathlib.Core.Path.{◌∙◌}
use Rattle.lexical.proofs.PlainLaws.{plain_in, tail_none, tail-one, tail-run}
use Rattle.lexical.proofs.run_tail.Goals as goal

pub returns-then-i-j : goal.returns-then-i-j
returns-then-i-j c = let a = c.before.before in tail_none a.args.s.now a.args.i a.args.j a.requires a.args.t c.if-i-j.true

pub bounds-s-j : goal.bounds-s-j
bounds-s-j c = let a = c.before.before.before in omega (arith, plain_in a.args.s.now a.args.i a.args.j a.requires c.if-i-j.false)

pub returns-then-j-i-eq1 : goal.returns-then-j-i-eq1
returns-then-j-i-eq1 c = let a = c.before.before.before.before.before in c.push.ensures ∙ tail-one a.args.s.now a.args.i a.args.j a.requires a.args.t c.if-i-j.false c.if-j-i-eq1.true

pub bounds-s-j-2 : goal.bounds-s-j-2
bounds-s-j-2 c = let a = c.before.before.before.before.before in omega (arith, plain_in a.args.s.now a.args.i a.args.j a.requires c.if-i-j.false)

pub returns : goal.returns
returns c = let a = c.before.before.before.before.before.before.before.before in tail-run a.args.s.now a.args.i a.args.j a.requires a.args.t c.if-i-j.false c.if-j-i-eq1.false c.low_last-last3.ensures c.low_after-last2.ensures c.low_after.ensures
