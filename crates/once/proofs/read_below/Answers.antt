use mathlib.Core.Path.{refl, sym, ap, ◌∙◌}
use mathlib.Core.Bool.{Bool, not, ◌&&◌}
use Rattle.once.proofs.Searches.{below-header, below-stored, below-read, below_on, below_end}
use Rattle.lines.proofs.EachLaws.{at-front, goes, stops}
use Rattle.once.proofs.read_below.Goals as goal

pub loop-line-init : goal.loop-line-init
loop-line-init c = let e = c.into_iter-line-iterator.ensures.into_iter_gives in let g = c.each-line-items.ensures in (at-front e g.text g.front, rw (e, g.front) refl)

pub returns-then-far-is_header : goal.returns-then-far-is_header
returns-then-far-is_header c = let k = goes c.loop-line.invariant.0 c.in-Some.ensures.steps in
    let a = c.args in
    sym (below-header a.far a.reg.0 a.text.now c.loop-line.line-iterator.at c.in-Some.line.to k.here.starts k.here.to (ap (λ (t : Bool). not a.far && t) (sym (rw k.here.bytes at c.is_header.ensures)) ∙ c.if-far-is_header.true)) ∙ c.loop-line.invariant.1

pub returns-then-u : goal.returns-then-u
returns-then-u c = let k = goes c.loop-line.invariant.0 c.in-Some.ensures.steps in
    let a = c.args in
    sym (below-stored a.far a.reg.0 a.text.now c.loop-line.line-iterator.at c.in-Some.line.to k.here.starts k.here.to (ap (λ (t : Bool). not a.far && t) (sym (rw k.here.bytes at c.is_header.ensures)) ∙ c.if-far-is_header.false) (sym (rw k.here.bytes at c.use_of-u.ensures).1 ∙ c.if-u.true)) ∙ c.loop-line.invariant.1

pub returns-then-u-gt0 : goal.returns-then-u-gt0
returns-then-u-gt0 c = let k = goes c.loop-line.invariant.0 c.in-Some.ensures.steps in
    let a = c.args in
    sym (below-read a.far a.reg.0 a.text.now c.loop-line.line-iterator.at c.in-Some.line.to k.here.starts k.here.to (ap (λ (t : Bool). not a.far && t) (sym (rw k.here.bytes at c.is_header.ensures)) ∙ c.if-far-is_header.false) (sym (rw k.here.bytes at c.use_of-u.ensures).1 ∙ c.if-u.false) _ (rw k.here.bytes at c.use_of-u.ensures).0 c.if-u-gt0.true) ∙ c.loop-line.invariant.1

pub loop-line-preserved : goal.loop-line-preserved
loop-line-preserved c = let k = goes c.loop-line.invariant.0 c.in-Some.ensures.steps in let a = c.args in
    (k.on, sym (below_on a.far a.reg.0 a.text.now c.loop-line.line-iterator.at c.in-Some.line.to k.here.starts k.here.to (ap (λ (t : Bool). not a.far && t) (sym (rw k.here.bytes at c.is_header.ensures)) ∙ c.if-far-is_header.false) (sym (rw k.here.bytes at c.use_of-u.ensures).1 ∙ c.if-u.false) _ (rw k.here.bytes at c.use_of-u.ensures).0 _ k.here.next c.if-u-gt0.false) ∙ c.loop-line.invariant.1)

pub returns : goal.returns
returns c = sym (below_end _ _ _ _ (stops c.loop-line.invariant.0 c.in-None.ensures.steps)) ∙ c.loop-line.invariant.1
