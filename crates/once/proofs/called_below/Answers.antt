use mathlib.Core.Path.{refl, sym, ◌∙◌}
use Rattle.once.proofs.Scratches.{called-header, called-found, called-changed, called_on, called-end}
use Rattle.lines.proofs.EachLaws.{at-front, goes, stops}
use Rattle.once.proofs.called_below.Goals as goal

pub loop-line-init : goal.loop-line-init
loop-line-init c = let e = c.into_iter-line-iterator.ensures.into_iter_gives in let g = c.each-line-items.ensures in (at-front e g.text g.front, rw (e, g.front) refl)

pub returns-then-is_header : goal.returns-then-is_header
returns-then-is_header c = let k = goes c.loop-line.invariant.0 c.in-Some.ensures.steps in
    let a = c.args in
    sym (called-header a.x.now a.text.now c.loop-line.line-iterator.at c.in-Some.line.to k.here.starts k.here.to (sym (rw k.here.bytes at c.is_header.ensures) ∙ c.if-is_header.true)) ∙ c.loop-line.invariant.1

pub returns-then-holds_call : goal.returns-then-holds_call
returns-then-holds_call c = let k = goes c.loop-line.invariant.0 c.in-Some.ensures.steps in
    let a = c.args in
    sym (called-found a.x.now a.text.now c.loop-line.line-iterator.at c.in-Some.line.to k.here.starts k.here.to (sym (rw k.here.bytes at c.is_header.ensures) ∙ c.if-is_header.false) (sym (rw k.here.bytes at c.holds_call.ensures) ∙ c.if-holds_call.true)) ∙ c.loop-line.invariant.1

pub returns-then-changes : goal.returns-then-changes
returns-then-changes c = let k = goes c.loop-line.invariant.0 c.in-Some.ensures.steps in
    let a = c.args in
    sym (called-changed a.x.now a.text.now c.loop-line.line-iterator.at c.in-Some.line.to k.here.starts k.here.to (sym (rw k.here.bytes at c.is_header.ensures) ∙ c.if-is_header.false) a.obj.now c.requires.0 (sym (rw k.here.bytes at c.holds_call.ensures) ∙ c.if-holds_call.false) (sym (rw k.here.bytes at c.changes.ensures) ∙ c.if-changes.true)) ∙ c.loop-line.invariant.1

pub loop-line-preserved : goal.loop-line-preserved
loop-line-preserved c = let k = goes c.loop-line.invariant.0 c.in-Some.ensures.steps in let a = c.args in
    (k.on, sym (called_on a.x.now a.text.now c.loop-line.line-iterator.at c.in-Some.line.to k.here.starts k.here.to (sym (rw k.here.bytes at c.is_header.ensures) ∙ c.if-is_header.false) a.obj.now c.requires.0 (sym (rw k.here.bytes at c.holds_call.ensures) ∙ c.if-holds_call.false) _ k.here.next (sym (rw k.here.bytes at c.changes.ensures) ∙ c.if-changes.false)) ∙ c.loop-line.invariant.1)

pub returns : goal.returns
returns c = sym (called-end _ _ _ (stops c.loop-line.invariant.0 c.in-None.ensures.steps)) ∙ c.loop-line.invariant.1
