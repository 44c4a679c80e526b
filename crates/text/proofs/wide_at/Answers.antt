use mathlib.Core.Path.{sym, ◌∙◌}
use Rattle.lines.proofs.Tests.{so}
use Rattle.text.proofs.Whites.{head_at}
use Rattle.text.proofs.wide_at.Goals as goal

pub returns-then-white1 : goal.returns-then-white1
returns-then-white1 c = sym (head_at _ _ _ _ _ c.requires c.byte-a.ensures c.byte-b.ensures c.byte-c.ensures ∙ simp (so c.white1.ensures c.if-white1.true))

pub returns-then-white2 : goal.returns-then-white2
returns-then-white2 c = sym (head_at _ _ _ _ _ c.requires c.byte-a.ensures c.byte-b.ensures c.byte-c.ensures ∙ simp (so c.white1.ensures c.if-white1.false, so c.white2.ensures c.if-white2.true))

pub returns-then-white3 : goal.returns-then-white3
returns-then-white3 c = sym (head_at _ _ _ _ _ c.requires c.byte-a.ensures c.byte-b.ensures c.byte-c.ensures ∙ simp (so c.white1.ensures c.if-white1.false, so c.white2.ensures c.if-white2.false, so c.white3.ensures c.if-white3.true))

pub returns : goal.returns
returns c = sym (head_at _ _ _ _ _ c.requires c.byte-a.ensures c.byte-b.ensures c.byte-c.ensures ∙ simp (so c.white1.ensures c.if-white1.false, so c.white2.ensures c.if-white2.false, so c.white3.ensures c.if-white3.false))
