use Rattle.std.proofs.Common.{true, false, sym, ◌∙◌}
use Rattle.lines.proofs.Tests.{so}
use Rattle.forms.proofs.BreaksLaws.{writes_at, writes_end, writes-skip}
use Rattle.forms.proofs.writes_word.Goals.{then-line-i+else-writes_here, else-line-i}
use Rattle.forms.proofs.writes_word.Goals as goal

pub returns-then-writes_here : goal.returns-then-writes_here
returns-then-writes_here c = let a = c.args in let l = c.loop-i in sym (writes_at a.name.now a.line.now l.i c.loop-i-test.true true (so c.writes_here.ensures c.if-writes_here.true)) ∙ l.invariant

pub loop-i-preserved : goal.loop-i-preserved
loop-i-preserved c =
    let n = c.args.name.now in
    let t = c.args.line.now in
    let l = c.loop-i in
    elim c.if-line-i.branch [
      | then-line-i+else-writes_here w ↦ sym (writes_at n t l.i c.loop-i-test.true false (so w.writes_here.ensures w.if-writes_here.false)) ∙ l.invariant
      | else-line-i w ↦ sym (writes-skip n t l.i c.requires c.loop-i-test.true w.if-line-i.false) ∙ l.invariant
    ]

pub returns : goal.returns
returns c = let a = c.args in let l = c.loop-i in sym (writes_end a.name.now a.line.now l.i c.loop-i-test.false) ∙ l.invariant
