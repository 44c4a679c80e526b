use Rattle.lines.proofs.LfLaws.{find-le}
use native.Mathlib.Omega.{arith}
use mathlib.Core.Path.{◌∙◌}
use Rattle.pruned.proofs.SeekCode.{seek-start, seek_found, seek-on, seek-end, seek-done}
use Rattle.pruned.proofs.walk.seek.Goals as goal

pub loop-k-init : goal.loop-k-init
loop-k-init c = let s = c.args in let r = c.requires in seek-start s.raw.now s.used.now s.p.now s.live.now s.lo s.at s.stop s.to s.top r.0.0 r.0.1 r.1.0.0 r.1.0.1 r.1.1.0 r.1.1.1

pub slice_bounds-may_be-end : goal.slice_bounds-may_be-end
slice_bounds-may_be-end c = omega (arith, find-le 10 c.args.raw.now c.loop-k.i c.find_far-e.result c.loop-k.invariant.at.i≤ c.find_far-e.ensures)

pub overflow_add-stop : goal.overflow_add-stop
overflow_add-stop c = omega (arith, c.loop-k.invariant.room)

pub walk-requires : goal.walk-requires
walk-requires c = ((seek_found c.loop-k.invariant c.loop-k-test.true c.find_far-e.result c.find_far-e.ensures c.cut.result.now c.cut.ensures c.may_be.result c.may_be.ensures c.if-may_be.true).i≤, c.loop-k.invariant.above)

pub shape_of-live-then-may_be : goal.shape_of-live-then-may_be
shape_of-live-then-may_be c = c.walk.auto.live ∙ c.loop-k.invariant.long

pub returns-then-may_be : goal.returns-then-may_be
returns-then-may_be c = seek-done (seek_found c.loop-k.invariant c.loop-k-test.true c.find_far-e.result c.find_far-e.ensures c.cut.result.now c.cut.ensures c.may_be.result c.may_be.ensures c.if-may_be.true) c.walk.ensures

pub overflow_add-k : goal.overflow_add-k
overflow_add-k c = omega (arith, c.loop-k-test.true, c.loop-k.invariant.room)

pub bounds-live-k : goal.bounds-live-k
bounds-live-k c = omega (arith, c.loop-k-test.true, c.loop-k.invariant.room)

pub loop-k-smaller : goal.loop-k-smaller
loop-k-smaller c = omega (arith, c.loop-k-test.true)

pub loop-k-preserved : goal.loop-k-preserved
loop-k-preserved c = seek-on c.loop-k.invariant c.loop-k-test.true c.find_far-e.result c.find_far-e.ensures c.cut.result.now c.cut.ensures c.may_be.result c.may_be.ensures c.if-may_be.false c.after-i.result c.after-i.ensures

pub walk-requires-2 : goal.walk-requires-2
walk-requires-2 c = ((seek-end c.loop-k.invariant c.loop-k-test.false).i≤, c.loop-k.invariant.above)

pub shape_of-live : goal.shape_of-live
shape_of-live c = c.walk-2.auto.live ∙ c.loop-k.invariant.long

pub returns : goal.returns
returns c = seek-done (seek-end c.loop-k.invariant c.loop-k-test.false) c.walk-2.ensures
