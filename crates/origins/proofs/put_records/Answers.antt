use Rattle.std.proofs.Common.{◌+◌, ◌<◌, ◌∙◌, ap, drop, length, refl, sym, ℕ, arith}
use Rattle.lines.specs.Lf.{up_to}
use Rattle.lines.proofs.EachLaws.{at-front, goes, stops}
use Rattle.lines.proofs.LfLaws.{find-le}
use Rattle.origins.proofs.Walks.{walk_start, walk-room, walk-told, walk-over, walk-out, walk-as}
use Rattle.origins.proofs.put_records.Goals as goal

pub loop-k-init : goal.loop-k-init
loop-k-init c =
    let it = c.into_iter-k-iterator.ensures.into_iter_gives in
    let e = c.enumerate-k-items.ensures in
    let s = ap (λ s. s.iter) it ∙ e.source in
    (at-front s c.each.ensures.text c.each.ensures.front, walk-as (walk_start _ _ _ _ _ c.requires) (ap (λ s. s.at) s ∙ c.each.ensures.front) (ap (λ s. s.count) it ∙ e.count))

pub returns-then-k-table : goal.returns-then-k-table
returns-then-k-table c = walk-out c.loop-k.invariant.1 (omega (arith, c.in-Some.ensures.steps.1, c.if-k-table.true))

pub bounds-table-k : goal.bounds-table-k
bounds-table-k c = omega (arith, c.loop-k.invariant.1.k≤, c.in-Some.ensures.steps.1, c.if-k-table.false)

pub tell-told-requires : goal.tell-told-requires
tell-told-requires c =
    let l = c.loop-k.invariant in
    let h = (goes l.0 c.in-Some.ensures.steps.0).here in
    ((omega (arith, h.from, h.to), find-le 10 c.args.text.now c.loop-k.k-iterator.iter.at c.in-Some.line.to l.1.i≤ h.to), l.1.p≤)

pub put_record-o-requires : goal.put_record-o-requires
put_record-o-requires c =
    let t = c.args.text.now in
    let l = c.loop-k.invariant in
    let s = c.in-Some.ensures.steps in
    let h = (goes l.0 s.0).here in
    let b : c.in-Some.k < length c.args.table.now = omega (arith, l.1.k≤, s.1, c.if-k-table.false) in
    walk-room (walk-as l.1 h.from s.1) (omega (arith, h.starts, h.from)) b c.in-Some.line.to _ _ (h.to ∙ ap (λ (n : ℕ). n + up_to 10 (drop n t)) (sym h.from)) refl refl

pub loop-k-preserved : goal.loop-k-preserved
loop-k-preserved c =
    let t = c.args.text.now in
    let l = c.loop-k.invariant in
    let s = c.in-Some.ensures.steps in
    let k = goes l.0 s.0 in
    let h = k.here in
    let b : c.in-Some.k < length c.args.table.now = omega (arith, l.1.k≤, s.1, c.if-k-table.false) in
    let y = h.to ∙ ap (λ (n : ℕ). n + up_to 10 (drop n t)) (sym h.from) in
    let w = walk-told (walk-as l.1 h.from s.1) (omega (arith, h.starts, h.from)) b c.in-Some.line.to _ _ y refl refl _ _ _ _ _ c.tell-told.ensures.went c.put_record-o.ensures c.tell-told.ensures.next h.next in
    (k.on, walk-as w refl (omega (arith, s.1, s.2)))

pub returns : goal.returns
returns c = walk-over c.loop-k.invariant.1 (stops c.loop-k.invariant.0 c.in-None.ensures.steps.0)
