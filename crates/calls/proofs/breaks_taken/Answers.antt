use native.Mathlib.Omega.{arith}
use mathlib.Core.Path.{refl, sym, ◌∙◌}
use Rattle.lines.proofs.Tests.{so}
use Rattle.calls.proofs.StepLaws.{down-end, down-short, down-hit, down-on}
use Rattle.lines.proofs.EachLaws.{at-front, goes, stops}
use Rattle.calls.proofs.breaks_taken.Goals as goal

pub loop-line-init : goal.loop-line-init
loop-line-init c = let e = c.into_iter-line-iterator.ensures.into_iter_gives in let g = c.each-line-items.ensures in (at-front e g.text g.front, rw (e, g.front) ((omega arith, refl)))

pub returns-then-j-owner : goal.returns-then-j-owner
returns-then-j-owner c = sym (down-short _ _ _ _ c.if-j-owner.true) ∙ c.loop-line.invariant.1.1

pub returns-then-breaks_if : goal.returns-then-breaks_if
returns-then-breaks_if c = let k = goes c.loop-line.invariant.0 c.in-Some.ensures.steps in
    sym (down-hit _ _ _ c.loop-line.line-iterator.at c.in-Some.line.to c.loop-line.j k.here.starts k.here.to c.if-j-owner.false (so (rw k.here.bytes at c.breaks_if.ensures) c.if-breaks_if.true)) ∙ c.loop-line.invariant.1.1

pub loop-line-preserved : goal.loop-line-preserved
loop-line-preserved c = let k = goes c.loop-line.invariant.0 c.in-Some.ensures.steps in (k.on, (omega (arith, c.if-j-owner.false), sym (down-on _ _ _ c.loop-line.line-iterator.at c.in-Some.line.to c.loop-line.j k.here.starts k.here.to c.if-j-owner.false (so (rw k.here.bytes at c.breaks_if.ensures) c.if-breaks_if.false) _ _ k.here.next refl) ∙ c.loop-line.invariant.1.1))

pub returns : goal.returns
returns c = sym (down-end _ _ _ _ (stops c.loop-line.invariant.0 c.in-None.ensures.steps)) ∙ c.loop-line.invariant.1.1
