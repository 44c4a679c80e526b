use Rattle.std.proofs.Common.{arith}
use Rattle.lines.proofs.LfLaws.{find-here, find-on, find-end}
use Rattle.lines.proofs.find_one.Goals as goal

pub returns-then-s-j : goal.returns-then-s-j
returns-then-s-j c = let a = c.args in omega (arith, find-here a.b a.s.now c.loop-j.j c.loop-j-test.true c.if-s-j.true)

pub loop-j-preserved : goal.loop-j-preserved
loop-j-preserved c = let a = c.args in omega (arith, find-on a.b a.s.now c.loop-j.j c.loop-j-test.true c.if-s-j.false)

pub returns : goal.returns
returns c = let a = c.args in grind (arith, find-end a.b a.s.now c.loop-j.j c.loop-j-test.false, find-end a.b a.s.now a.i)
