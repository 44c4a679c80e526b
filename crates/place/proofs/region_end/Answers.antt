use native.Mathlib.Omega.{arith}
use mathlib.Core.Path.{sym, ◌∙◌, ap}
use Rattle.lines.proofs.EachLaws.{at-place, goes, stops}
use Rattle.place.specs.Region.{is_header}
use Rattle.place.proofs.Regions.{past, end-stop, end_on, end-end, end-past}
use Rattle.place.proofs.region_end.Goals as goal

pub returns-then-i-text : goal.returns-then-i-text
returns-then-i-text c = end-past c.args.text.now c.args.i c.if-i-text.true

pub loop-line-init : goal.loop-line-init
loop-line-init c =
    let e = c.into_iter-line-iterator.ensures.into_iter_gives in
    let g = c.from-line-items.ensures in
    let q = c.find_byte-e.ensures in
    let h = c.if-i-text.false in
    (at-place e g.text g.place (omega (arith, c.after.ensures)), rw (e, g.place) (past c.args.text.now c.args.i c.find_byte-e.result c.after.result q (omega (arith, h)) c.after.ensures))

pub returns-then-is_header : goal.returns-then-is_header
returns-then-is_header c =
    let l = c.loop-line in
    let k = (goes l.invariant.0 c.in-Some.ensures.steps).here in
    omega (arith, end-stop c.args.text.now l.line-iterator.at c.in-Some.line.to k.starts k.to (sym (c.is_header.ensures ∙ ap is_header k.bytes) ∙ c.if-is_header.true), l.invariant.1, k.from)

pub loop-line-preserved : goal.loop-line-preserved
loop-line-preserved c =
    let l = c.loop-line in
    let t = c.args.text.now in
    let k = goes l.invariant.0 c.in-Some.ensures.steps in
    let h = k.here in (
      k.on,
      omega (
        arith,
        past t l.line-iterator.at c.in-Some.line.to _ h.to l.invariant.0.at≤ h.next,
        end_on t l.line-iterator.at c.in-Some.line.to h.starts h.to (sym (c.is_header.ensures ∙ ap is_header h.bytes) ∙ c.if-is_header.false),
        l.invariant.1,
      ),
    )

pub returns : goal.returns
returns c =
    let l = c.loop-line in
    let e = stops l.invariant.0 c.in-None.ensures.steps in
    omega (arith, end-end c.args.text.now l.line-iterator.at e, l.invariant.0.at≤, e, l.invariant.1)
