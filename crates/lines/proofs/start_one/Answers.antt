use Rattle.std.proofs.Common.{sym, ◌∙◌, arith}
use Rattle.lines.proofs.Starts.{start-here, start-on, start-front}
use Rattle.lines.proofs.start_one.Goals as goal

pub returns-then-s-j-eq10 : goal.returns-then-s-j-eq10
returns-then-s-j-eq10 c = let l = c.loop-j in let e = sym (start-here c.args.s.now l.j c.loop-j-test.true c.if-s-j-eq10.true) ∙ l.invariant in omega arith

pub loop-j-preserved : goal.loop-j-preserved
loop-j-preserved c = let l = c.loop-j in sym (start-on c.args.s.now l.j c.loop-j-test.true c.if-s-j-eq10.false) ∙ l.invariant

pub returns : goal.returns
returns c = let e = sym (start-front c.args.s.now c.loop-j.j c.loop-j-test.false) ∙ c.loop-j.invariant in omega arith
