use mathlib.Core.Path.{sym, ◌∙◌}
use native.Mathlib.Omega.{arith}
use Rattle.lexical.proofs.EndLaws.{pattern-after, pattern-open, pattern-shut, pattern-inside, pattern-close, pattern-more, pattern-none}
use Rattle.lexical.proofs.pattern_end.Goals as goal

pub after-j-requires : goal.after-j-requires
after-j-requires c = tt

pub loop-j-smaller-in-92 : goal.loop-j-smaller-in-92
loop-j-smaller-in-92 c = omega (arith, c.after-j.ensures)

pub loop-j-preserved-in-92 : goal.loop-j-preserved-in-92
loop-j-preserved-in-92 c = let a = c.args in let l = c.loop-j in sym (pattern-after l.inside a.s.now l.j _ c.after-j.ensures c.loop-j-test.true c.in-92.is) ∙ l.invariant

pub loop-j-preserved-in-91 : goal.loop-j-preserved-in-91
loop-j-preserved-in-91 c = let a = c.args in let l = c.loop-j in sym (pattern-open l.inside a.s.now l.j c.loop-j-test.true c.in-91.is) ∙ l.invariant

pub loop-j-preserved-in-93 : goal.loop-j-preserved-in-93
loop-j-preserved-in-93 c = let a = c.args in let l = c.loop-j in sym (pattern-shut l.inside a.s.now l.j c.loop-j-test.true c.in-93.is) ∙ l.invariant

pub loop-j-preserved-then-inside : goal.loop-j-preserved-then-inside
loop-j-preserved-then-inside c = let a = c.args in let l = c.loop-j in sym (pattern-inside l.inside a.s.now l.j c.loop-j-test.true c.in-47.is c.if-inside.true) ∙ l.invariant

pub returns-else-inside : goal.returns-else-inside
returns-else-inside c = let a = c.args in let l = c.loop-j in sym (pattern-close l.inside a.s.now l.j c.loop-j-test.true c.in-47.is c.if-inside.false) ∙ l.invariant

pub loop-j-preserved : goal.loop-j-preserved
loop-j-preserved c = let a = c.args in let l = c.loop-j in sym (pattern-more l.inside a.s.now l.j c.loop-j-test.true (omega arith) (omega arith) (omega arith) (omega arith)) ∙ l.invariant

pub returns : goal.returns
returns c = let a = c.args in let l = c.loop-j in sym (pattern-none l.inside a.s.now l.j c.loop-j-test.false) ∙ l.invariant
