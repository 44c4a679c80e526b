use Rattle.std.proofs.Common.{sym, ◌∙◌, arith}
use Rattle.lines.proofs.Tests.{so}
use Rattle.lexical.proofs.PlainLaws.{plain_more, plain-stop, plain-none}
use Rattle.lexical.proofs.plain_one.Goals as goal

pub returns-then-not-is_plain : goal.returns-then-not-is_plain
returns-then-not-is_plain c = let l = c.loop-j in sym (plain-stop c.args.s.now l.j c.loop-j-test.true (so c.is_plain.ensures c.if-not-is_plain.true)) ∙ l.invariant

pub loop-j-preserved : goal.loop-j-preserved
loop-j-preserved c = let l = c.loop-j in sym (plain_more c.args.s.now l.j c.loop-j-test.true (so c.is_plain.ensures c.if-not-is_plain.false)) ∙ l.invariant

pub returns : goal.returns
returns c = let a = c.args in grind (arith, plain-none a.s.now c.loop-j.j c.loop-j-test.false, plain-none a.s.now a.i)
