use Rattle.std.proofs.Common.{sym, ◌∙◌, arith}
use Rattle.po.proofs.LineLaws.{colon-here, colon-on, colon-zero}
use Rattle.po.proofs.reader.last_colon.Goals as goal

pub returns-then-l-e-eq58 : goal.returns-then-l-e-eq58
returns-then-l-e-eq58 c = let l = c.loop-e in let e = sym (colon-here c.args.l.now l.e c.loop-e-test.true c.if-l-e-eq58.true) ∙ l.invariant in omega arith

pub loop-e-preserved : goal.loop-e-preserved
loop-e-preserved c = let l = c.loop-e in sym (colon-on c.args.l.now l.e c.loop-e-test.true c.if-l-e-eq58.false) ∙ l.invariant

pub returns : goal.returns
returns c = let e = sym (colon-zero c.args.l.now c.loop-e.e (omega arith)) ∙ c.loop-e.invariant in omega arith
