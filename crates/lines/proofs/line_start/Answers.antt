use Rattle.std.proofs.Common.{sym, ap, ◌∙◌, arith}
use Rattle.lines.specs.Inner.Lf.{line_start}
use Rattle.lines.proofs.Starts.{start-least, start-marked, start-unmarked}
use Rattle.lines.proofs.line_start.Goals as goal

pub loop-j-init : goal.loop-j-init
loop-j-init c = let a = c.args in (omega arith, ap (line_start a.s.now) c.min-j.ensures ∙ start-least a.s.now a.e)

pub loop-j-preserved : goal.loop-j-preserved
loop-j-preserved c =
    let l = c.loop-j in
    (omega (arith, l.invariant.0), sym (start-unmarked c.args.s.now l.j c.marks_at-t.result c.loop-j-test.true l.invariant.0 c.marks_at-t.ensures c.if-t-eq0.true) ∙ l.invariant.1)

pub returns-else-t-eq0 : goal.returns-else-t-eq0
returns-else-t-eq0 c =
    let l = c.loop-j in
    sym (start-marked c.args.s.now l.j c.marks_at-t.result c.loop-j-test.true l.invariant.0 c.marks_at-t.ensures c.if-t-eq0.false) ∙ l.invariant.1
