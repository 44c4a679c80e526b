use Prim.Native.Nat.{ℕ}
use mathlib.Core.Path.{◌≡◌, refl, sym, ap, ◌∙◌}
use native.Mathlib.Omega.{arith}
use lib.ListN.{length}
use Rattle.lines.specs.Lf.{part}
use Rattle.lines.proofs.Tests.{so}
use Rattle.lines.proofs.LfLaws.{find-le}
use Rattle.lines.proofs.EachLaws.{at-place, goes, stops}
use Rattle.place.proofs.Regions.{end-past}
use Rattle.decls.specs.Inner.Seen.{quiet_none}
use Rattle.decls.proofs.LineRuns.{line-decl-marked}
use Rattle.decls.proofs.SeenLaws.{quiet-le, region-none, region-start, region-first, region-stop, region-on, region-end}
use Rattle.decls.proofs.Stretches.{decl-here, stretch-new, stretch-long, stretch-shut, stretch-on}
use Rattle.decls.proofs.seen.mark_region.Goals as goal

pub returns-then-a-text : goal.returns-then-a-text
returns-then-a-text c =
    let a = c.args in
    record { answer = (end-past a.text.now a.a c.if-a-text.true, quiet_none a.a); memory = region-none a.own.now a.m a.text.now a.seen.now a.a c.if-a-text.true }

pub slice_bounds-mark_line-end : goal.slice_bounds-mark_line-end
slice_bounds-mark_line-end c = omega (arith, find-le 10 c.args.text.now c.args.a c.find_byte-e.result (omega arith) c.find_byte-e.ensures)

pub loop-line-init : goal.loop-line-init
loop-line-init c =
    let a = c.args in
    let f = c.find_byte-e in
    let n = c.after-below in
    let e = c.into_iter-line-iterator.ensures.into_iter_gives in
    let g = c.from-line-items.ensures in
    (at-place e g.text g.place (omega (arith, n.ensures)), rw (e, g.place) (stretch-new (region-start a.own.now a.m a.text.now a.seen.now _ a.a f.result n.result (part a.a f.result a.text.now) c.if-a-text.false f.ensures n.ensures)))

pub slice_bounds-mark_runs-count : goal.slice_bounds-mark_runs-count
slice_bounds-mark_runs-count c = let v = c.loop-line.invariant.1 in omega (arith, quiet-le v.quiet, v.marked.j≤, (goes c.loop-line.invariant.0 c.in-Some.ensures.steps).here.from)

pub slice_bounds-mark_runs-start : goal.slice_bounds-mark_runs-start
slice_bounds-mark_runs-start c = let v = c.loop-line.invariant.1 in omega (arith, quiet-le v.quiet, v.marked.j≤, (goes c.loop-line.invariant.0 c.in-Some.ensures.steps).here.from)

pub slice_bounds-mark_runs-end : goal.slice_bounds-mark_runs-end
slice_bounds-mark_runs-end c = let v = c.loop-line.invariant.1 in omega (arith, quiet-le v.quiet, v.marked.j≤, (goes c.loop-line.invariant.0 c.in-Some.ensures.steps).here.from)

pub shape_of-seen-then-is_header : goal.shape_of-seen-then-is_header
shape_of-seen-then-is_header c = c.mark_runs.auto.seen ∙ stretch-long c.loop-line.invariant.1 ∙ c.mark_line.auto.seen

pub returns-then-is_header : goal.returns-then-is_header
returns-then-is_header c =
    let a = c.args in
    let v = c.loop-line.invariant.1 in
    let k = (goes c.loop-line.invariant.0 c.in-Some.ensures.steps).here in
    let line = c.in-Some.line in
    let r = region-stop (stretch-shut v _ _ refl (rw k.from at c.mark_runs.ensures)) line.to line.bytes.now k.starts k.to k.bytes (so c.is_header.ensures c.if-is_header.true) in
    record { answer = (k.from ∙ r.0, rw k.from v.quiet); memory = r.1 ∙ region-first a.own.now a.m a.text.now a.seen.now _ a.a c.find_byte-e.result c.after-below.result _ c.if-a-text.false c.find_byte-e.ensures c.after-below.ensures refl c.mark_line.ensures.memory }

pub declares_at-requires : goal.declares_at-requires
declares_at-requires c =
    let k = (goes c.loop-line.invariant.0 c.in-Some.ensures.steps).here in
    λ z. decl-here c.args.text.now _ c.args.i c.loop-line.line-iterator.at c.in-Some.line.to k.bytes k.to k.starts (sym k.from ∙ z) c.requires

pub loop-line-preserved-then-not-declares_at : goal.loop-line-preserved-then-not-declares_at
loop-line-preserved-then-not-declares_at c =
    let k = goes c.loop-line.invariant.0 c.in-Some.ensures.steps in
    let h = k.here in
    (k.on, stretch-on c.loop-line.invariant.1 c.in-Some.line.to _ c.in-Some.line.bytes.now h.starts h.to h.bytes h.next (so c.is_header.ensures c.if-is_header.false) (so c.declares_at.ensures c.if-not-declares_at.true))

pub loop-line-preserved : goal.loop-line-preserved
loop-line-preserved c =
    let v = c.loop-line.invariant.1 in
    let k = goes c.loop-line.invariant.0 c.in-Some.ensures.steps in
    let h = k.here in
    let line = c.in-Some.line in
    (k.on, rw (c.after-q.ensures ∙ sym h.next) (stretch-new (region-on (stretch-shut v _ _ refl (rw h.from at c.mark_runs-in-loop-line.ensures)) line.to line.bytes.now h.starts h.to h.bytes (so c.is_header.ensures c.if-is_header.false) _ _ (line-decl-marked c.args.own.now c.args.m _ _ (so c.declares_at.ensures c.if-not-declares_at.false)) h.next)))

pub slice_bounds-mark_runs-count-in-loop-line : goal.slice_bounds-mark_runs-count-in-loop-line
slice_bounds-mark_runs-count-in-loop-line c = omega (arith, quiet-le c.loop-line.invariant.1.quiet, (goes c.loop-line.invariant.0 c.in-Some.ensures.steps).here.from)

pub slice_bounds-mark_runs-start-in-loop-line : goal.slice_bounds-mark_runs-start-in-loop-line
slice_bounds-mark_runs-start-in-loop-line c = omega (arith, quiet-le c.loop-line.invariant.1.quiet, (goes c.loop-line.invariant.0 c.in-Some.ensures.steps).here.from)

pub slice_bounds-mark_runs-count-2 : goal.slice_bounds-mark_runs-count-2
slice_bounds-mark_runs-count-2 c = let v = c.loop-line.invariant.1 in omega (arith, quiet-le v.quiet, v.marked.j≤)

pub slice_bounds-mark_runs-start-2 : goal.slice_bounds-mark_runs-start-2
slice_bounds-mark_runs-start-2 c = let v = c.loop-line.invariant.1 in omega (arith, quiet-le v.quiet, v.marked.j≤)

pub shape_of-seen : goal.shape_of-seen
shape_of-seen c = c.mark_runs-2.auto.seen ∙ stretch-long c.loop-line.invariant.1 ∙ c.mark_line.auto.seen

pub returns : goal.returns
returns c =
    let a = c.args in
    let l = c.loop-line in
    let v = l.invariant.1 in
    let w = stops l.invariant.0 c.in-None.ensures.steps in
    let e : length a.text.now ≡ l.line-iterator.at = omega (arith, w, l.invariant.0.at≤) in
    let r = region-end (stretch-shut v _ _ (ap (λ (n : ℕ). part l.q n a.text.now) e) c.mark_runs-2.ensures) w in
    record { answer = (e ∙ r.0, rw e v.quiet); memory = r.1 ∙ region-first a.own.now a.m a.text.now a.seen.now _ a.a c.find_byte-e.result c.after-below.result _ c.if-a-text.false c.find_byte-e.ensures c.after-below.ensures refl c.mark_line.ensures.memory }
