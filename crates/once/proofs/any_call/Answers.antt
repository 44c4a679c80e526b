use mathlib.Core.Path.{sym, ◌∙◌}
use Rattle.once.proofs.CallLaws.{any-header, any_found, any-on, any-end}
use Rattle.lines.proofs.EachLaws.{goes, stops}
use Rattle.once.proofs.any_call.Goals as goal

pub returns-then-is_header : goal.returns-then-is_header
returns-then-is_header c = let k = goes c.loop-line.invariant.0 c.in-Some.ensures.steps in let a = c.args in
    sym (any-header a.x.now a.text.now c.loop-line.line-iterator.at c.in-Some.line.to k.here.starts k.here.to c.in-Some.line.bytes.now k.here.bytes (sym c.is_header.ensures ∙ c.if-is_header.true)) ∙ c.loop-line.invariant.1

pub returns-then-line_calls : goal.returns-then-line_calls
returns-then-line_calls c = let k = goes c.loop-line.invariant.0 c.in-Some.ensures.steps in let a = c.args in
    sym (any_found a.x.now a.text.now c.loop-line.line-iterator.at c.in-Some.line.to k.here.starts k.here.to c.in-Some.line.bytes.now k.here.bytes (sym c.is_header.ensures ∙ c.if-is_header.false) (sym c.line_calls.ensures ∙ c.if-line_calls.true)) ∙ c.loop-line.invariant.1

pub loop-line-preserved : goal.loop-line-preserved
loop-line-preserved c = let k = goes c.loop-line.invariant.0 c.in-Some.ensures.steps in (
  k.on,
  let a = c.args in
      sym (any-on a.x.now a.text.now c.loop-line.line-iterator.at c.in-Some.line.to k.here.starts k.here.to c.in-Some.line.bytes.now k.here.bytes (sym c.is_header.ensures ∙ c.if-is_header.false) (sym c.line_calls.ensures ∙ c.if-line_calls.false) _ k.here.next) ∙ c.loop-line.invariant.1,
)

pub returns : goal.returns
returns c = sym (any-end _ _ _ (stops c.loop-line.invariant.0 c.in-None.ensures.steps)) ∙ c.loop-line.invariant.1
