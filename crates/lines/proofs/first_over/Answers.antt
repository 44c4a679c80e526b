use Rattle.std.proofs.Common.{sym, ◌∙◌, ap, arith}
use Rattle.lines.specs.Lf.{count_of}
use Rattle.lines.proofs.EachLaws.{goes, stops}
use Rattle.lines.proofs.Counts.{over-here, over-on, over-end}
use Rattle.lines.proofs.first_over.Goals as goal

pub returns-then-most-count_byte : goal.returns-then-most-count_byte
returns-then-most-count_byte c =
    let a = c.args in
    let l = c.loop-line in
    let k = (goes l.invariant.0 c.in-Some.ensures.steps).here in
    sym (over-here a.most a.b a.text.now l.n l.line-iterator.at c.in-Some.line.to k.starts k.to (omega (arith, c.if-most-count_byte.true, c.count_byte.ensures ∙ ap (count_of a.b) k.bytes))) ∙ l.invariant.1.1

pub loop-line-preserved : goal.loop-line-preserved
loop-line-preserved c =
    let a = c.args in
    let l = c.loop-line in
    let k = goes l.invariant.0 c.in-Some.ensures.steps in
    let h = k.here in (
      k.on,
      (
        omega (arith, h.next, h.to, h.starts, l.invariant.1.0),
        rw h.next (sym (over-on a.most a.b a.text.now l.n l.line-iterator.at c.in-Some.line.to h.starts h.to (omega (arith, c.if-most-count_byte.false, c.count_byte.ensures ∙ ap (count_of a.b) h.bytes))) ∙ l.invariant.1.1),
      ),
    )

pub returns : goal.returns
returns c =
    let a = c.args in
    let l = c.loop-line in
    sym (over-end a.most a.b a.text.now l.n l.line-iterator.at (stops l.invariant.0 c.in-None.ensures.steps)) ∙ l.invariant.1.1
