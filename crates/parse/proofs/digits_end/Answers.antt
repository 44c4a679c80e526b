use native.Mathlib.Omega.{arith}
use lib.ListN.{get_or}
use Rattle.parse.proofs.Plain.{digits-here, digits-on, digits-end, digit-test}
use Rattle.parse.proofs.digits_end.Goals as goal

pub returns-then-s-j : goal.returns-then-s-j
returns-then-s-j c = let l = c.loop-j in let s = c.args.s.now in omega (arith, l.invariant, digits-here s l.j c.loop-j-test.true (digit-test (get_or s l.j 0) _ c.if-s-j.true))

pub loop-j-preserved : goal.loop-j-preserved
loop-j-preserved c = let l = c.loop-j in let s = c.args.s.now in omega (arith, l.invariant, digits-on s l.j c.loop-j-test.true (digit-test (get_or s l.j 0) _ c.if-s-j.false))

pub returns : goal.returns
returns c = let a = c.args in grind (arith, digits-end a.s.now c.loop-j.j c.loop-j-test.false, digits-end a.s.now a.i)
