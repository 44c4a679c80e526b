use mathlib.Core.Path.{sym, ap}
use native.Mathlib.Omega.{arith}
use lib.ListN.{drop_of_length-le}
use Rattle.flaws.specs.Flaws.{is_cut}
use Rattle.flaws.proofs.FlawLaws.{rest-one, rest-two, rest-three, cut-more}
use Rattle.flaws.proofs.is_cut.Goals as goal

pub returns-then-s-i : goal.returns-then-s-i
unfolding is_cut
returns-then-s-i c = sym (ap is_cut (drop_of_length-le _ c.if-s-i.true))

pub returns-then-n-eq1 : goal.returns-then-n-eq1
returns-then-n-eq1 c = cc (rest-one _ _ c.if-s-i.false c.if-n-eq1.true)

pub returns-then-n-eq2 : goal.returns-then-n-eq2
returns-then-n-eq2 c = cc (rest-two _ _ c.if-s-i.false c.if-n-eq2.true)

pub returns-then-n-eq3 : goal.returns-then-n-eq3
returns-then-n-eq3 c = cc (rest-three _ _ c.if-s-i.false c.if-n-eq3.true)

pub returns : goal.returns
returns c = sym (cut-more c.args.s.now c.args.i (omega arith))
