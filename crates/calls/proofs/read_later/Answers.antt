use mathlib.Core.Path.{refl, sym, ◌∙◌}
use Rattle.lines.proofs.Tests.{so}
use Rattle.reading.specs.Reading.{plain}
use Rattle.calls.proofs.StepLaws.{later-end, later-header, later-read, later-store, later-on}
use Rattle.lines.proofs.EachLaws.{at-front, goes, stops}
use Rattle.calls.proofs.read_later.Goals as goal

pub loop-line-init : goal.loop-line-init
loop-line-init c = let e = c.into_iter-line-iterator.ensures.into_iter_gives in let g = c.each-line-items.ensures in (at-front e g.text g.front, rw (e, g.front) refl)

pub returns-then-is_header : goal.returns-then-is_header
returns-then-is_header c = let k = goes c.loop-line.invariant.0 c.in-Some.ensures.steps in
    sym (later-header plain _ _ c.loop-line.line-iterator.at c.in-Some.line.to k.here.starts k.here.to (so (rw k.here.bytes at c.is_header.ensures) c.if-is_header.true)) ∙ c.loop-line.invariant.1

pub returns-then-u-ne0 : goal.returns-then-u-ne0
returns-then-u-ne0 c = let k = goes c.loop-line.invariant.0 c.in-Some.ensures.steps in
    sym (later-read plain _ _ c.loop-line.line-iterator.at c.in-Some.line.to k.here.starts k.here.to (so (rw k.here.bytes at c.is_header.ensures) c.if-is_header.false) _ (rw k.here.bytes at c.use_of-u.ensures).0 c.if-u-ne0.true) ∙ c.loop-line.invariant.1

pub returns-then-u : goal.returns-then-u
returns-then-u c = let k = goes c.loop-line.invariant.0 c.in-Some.ensures.steps in
    sym (later-store plain _ _ c.loop-line.line-iterator.at c.in-Some.line.to k.here.starts k.here.to (so (rw k.here.bytes at c.is_header.ensures) c.if-is_header.false) _ (rw k.here.bytes at c.use_of-u.ensures).0 c.if-u-ne0.false _ (rw k.here.bytes at c.use_of-u.ensures).1 c.if-u.true) ∙ c.loop-line.invariant.1

pub loop-line-preserved : goal.loop-line-preserved
loop-line-preserved c = let k = goes c.loop-line.invariant.0 c.in-Some.ensures.steps in (k.on, sym (later-on plain _ _ c.loop-line.line-iterator.at c.in-Some.line.to k.here.starts k.here.to (so (rw k.here.bytes at c.is_header.ensures) c.if-is_header.false) _ (rw k.here.bytes at c.use_of-u.ensures).0 c.if-u-ne0.false _ (rw k.here.bytes at c.use_of-u.ensures).1 c.if-u.false _ k.here.next) ∙ c.loop-line.invariant.1)

pub returns : goal.returns
returns c = sym (later-end plain _ _ _ (stops c.loop-line.invariant.0 c.in-None.ensures.steps)) ∙ c.loop-line.invariant.1
