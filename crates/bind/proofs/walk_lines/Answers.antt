use mathlib.Core.Path.{refl}
use native.Mathlib.Omega.{arith}
use Rattle.records.proofs.Shown.{told-long}
use Rattle.bind.proofs.WalkLaws.{walk-length, walk-marked}
use Rattle.bind.proofs.Turns.{viewed-start, viewed-asks, viewed-reach, viewed-here, viewed-on, turn_end, turn-read, turn-line, turn_on}
use Rattle.bind.proofs.walk_lines.Goals as goal

pub stop_by-requires : goal.stop_by-requires
stop_by-requires c = (told-long c.requires.1.1.told).0

pub first_site-s-requires : goal.first_site-s-requires
first_site-s-requires c = tt

pub loop-k-init : goal.loop-k-init
loop-k-init c = let p = c.requires.1 in viewed-start c.requires.0 p.0.0 p.0.1.0 p.0.1.1 p.1 c.stop_by.ensures c.first_site-s.ensures

pub refill-past-requires : goal.refill-past-requires
refill-past-requires c = viewed-asks c.loop-k.invariant c.requires.1.1.told c.loop-k-test.true (λ i. omega (arith, c.shared_slice_known-3-1.given i))

pub overflow_add-k : goal.overflow_add-k
overflow_add-k c = omega (arith, c.loop-k-test.true, c.ranges.n)

pub overflow_sub-k : goal.overflow_sub-k
overflow_sub-k c = (viewed-reach c.loop-k.invariant c.requires.1.1.told c.loop-k-test.true c.refill-past.ensures.place c.refill-past.ensures.records).0

pub get-rec-requires : goal.get-rec-requires
get-rec-requires c = (viewed-reach c.loop-k.invariant c.requires.1.1.told c.loop-k-test.true c.refill-past.ensures.place c.refill-past.ensures.records).1

pub site_by-s-requires : goal.site_by-s-requires
site_by-s-requires c = (c.loop-k-test.true, (told-long c.requires.1.1.told).0)

pub walk_line-o-requires : goal.walk_line-o-requires
walk_line-o-requires c = let g = viewed-here c.loop-k.invariant c.requires.1.1.told c.loop-k-test.true c.refill-past.ensures.place c.refill-past.ensures.records c.get-rec.ensures in
    let r = turn-read c.loop-k.invariant.turn c.loop-k-test.true g c.site_by-s.ensures in
    let b = c.ranges in
    let w = walk-marked c.loop-k.invariant.turn.bind in
    ((r.0, (omega (arith, b, r.1.0), (omega (arith, b, r.1.1.0, w), λ i. omega (arith, b, r.1.1.1 i, w)))), turn-line c.loop-k.invariant.turn c.loop-k-test.true g c.site_by-s.ensures refl refl)

pub loop-k-preserved : goal.loop-k-preserved
loop-k-preserved c = let g = viewed-here c.loop-k.invariant c.requires.1.1.told c.loop-k-test.true c.refill-past.ensures.place c.refill-past.ensures.records c.get-rec.ensures in
    viewed-on c.loop-k.invariant c.requires.1.1.told c.loop-k-test.true c.refill-past.ensures.place c.refill-past.ensures.records
    (turn_on c.loop-k.invariant.turn c.loop-k-test.true g c.site_by-s.ensures c.walk_line-o.ensures.index.0 c.walk_line-o.ensures.index.1 refl c.walk_line-o.ensures.answer c.walk_line-o.ensures.memory)

pub shape_of-seen : goal.shape_of-seen
shape_of-seen c = c.loop-k.invariant.turn.index.long-d

pub shape_of-first : goal.shape_of-first
shape_of-first c = c.loop-k.invariant.turn.index.long-u

pub shape_of-marks : goal.shape_of-marks
shape_of-marks c = walk-marked c.loop-k.invariant.turn.bind

pub shape_of-out : goal.shape_of-out
shape_of-out c = walk-length c.loop-k.invariant.turn.bind

pub shape_of-recs : goal.shape_of-recs
shape_of-recs c = c.loop-k.invariant.same

pub returns : goal.returns
returns c =
    let whole = turn_end c.loop-k.invariant.turn c.loop-k-test.false in
    record { answer = whole.0; memory = whole.1 }
