use native.Mathlib.Omega.{arith}
use Rattle.calls.proofs.Turns.{passes-start}
use Rattle.calls.proofs.Downs.{viewed-start, viewed-asks, viewed-reach, viewed-ready, viewed-on, lined-end}
use Rattle.calls.proofs.rebuild_lines.Goals as goal

pub loop-n-init : goal.loop-n-init
loop-n-init c = let p = c.requires.1 in viewed-start (passes-start p.0 p.1.0 p.1.1.0 p.1.1.1.0 p.1.1.1.1.0) p.1.1.1.1.1.0 c.requires.0

pub refill-past-requires : goal.refill-past-requires
refill-past-requires c = viewed-asks c.loop-n.invariant c.requires.1.1.1.1.1.1.0 c.loop-n-test.true (λ i. omega (arith, c.shared_slice_known-2-1.given i))

pub overflow_add-n : goal.overflow_add-n
overflow_add-n c = omega (arith, c.loop-n-test.true, c.ranges.m)

pub overflow_sub-n : goal.overflow_sub-n
overflow_sub-n c = (viewed-reach c.loop-n.invariant c.requires.1.1.1.1.1.1.0 c.loop-n-test.true c.refill-past.ensures.place c.refill-past.ensures.records).0

pub get-rec-requires : goal.get-rec-requires
get-rec-requires c = (viewed-reach c.loop-n.invariant c.requires.1.1.1.1.1.1.0 c.loop-n-test.true c.refill-past.ensures.place c.refill-past.ensures.records).1

pub turn_line-o-requires : goal.turn_line-o-requires
turn_line-o-requires c = (viewed-ready c.loop-n.invariant c.requires.1.1.1.1.1.1.0 c.loop-n-test.true c.refill-past.ensures.place c.refill-past.ensures.records c.get-rec.ensures, c.requires.1.1.1.1.1.1.1)

pub loop-n-preserved : goal.loop-n-preserved
loop-n-preserved c = let f = c.turn_line-o in viewed-on c.loop-n.invariant c.requires.1.1.1.1.1.1.0 c.loop-n-test.true c.refill-past.ensures.place c.refill-past.ensures.records c.get-rec.ensures f.ensures f.auto.owner f.auto.stack f.auto.cur f.auto.next

pub shape_of-owner : goal.shape_of-owner
shape_of-owner c = c.loop-n.invariant.lined.passes.same-owner

pub shape_of-stack : goal.shape_of-stack
shape_of-stack c = c.loop-n.invariant.lined.passes.same-stack

pub shape_of-cur : goal.shape_of-cur
shape_of-cur c = c.loop-n.invariant.lined.passes.same-cur

pub shape_of-next : goal.shape_of-next
shape_of-next c = c.loop-n.invariant.lined.passes.same_next

pub shape_of-recs : goal.shape_of-recs
shape_of-recs c = c.loop-n.invariant.same

pub returns : goal.returns
returns c = lined-end c.loop-n.invariant.lined c.loop-n-test.false
