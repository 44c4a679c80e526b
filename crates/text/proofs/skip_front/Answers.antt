use mathlib.Core.Path.{◌≡◌, sym, ap, ◌∙◌}
use native.Mathlib.Omega.{arith}
use lib.ListN.{drop, drop_of_length-le}
use Rattle.text.specs.Trim.{lead, from_of}
use Rattle.text.proofs.Whites.{head-le}
use Rattle.text.proofs.Trims.{front-stop, front-on}
use Rattle.text.proofs.skip_front.Goals as goal

pub loop-i-init : goal.loop-i-init
unfolding from_of
loop-i-init c = (omega arith, omega arith)

pub returns-then-n-eq0 : goal.returns-then-n-eq0
returns-then-n-eq0 c = let s = c.args.s.now in let i = c.loop-i.i in let k = front-stop s i c.loop-i-test.true (sym c.white_at-n.ensures ∙ c.if-n-eq0.true) in omega arith

pub overflow_add-i : goal.overflow_add-i
overflow_add-i c = let s = c.args.s.now in let i = c.loop-i.i in let k = head-le s i c.loop-i-test.true in omega arith

pub loop-i-preserved : goal.loop-i-preserved
loop-i-preserved c = let s = c.args.s.now in let i = c.loop-i.i in let k = head-le s i c.loop-i-test.true in let n = c.white_at-n.result in let f = front-on s i c.loop-i-test.true n (sym c.white_at-n.ensures) c.if-n-eq0.false in (omega arith, omega arith)

pub returns : goal.returns
unfolding lead
returns c = let s = c.args.s.now in let i = c.loop-i.i in let k : lead 0 (drop i s) ≡ 0 = ap (lead 0) (drop_of_length-le s c.loop-i-test.false) in omega arith
