use native.Mathlib.Omega.{arith}
use Rattle.place.proofs.Walks.{walk-front, walk-plain, walk-room, walk-less, walk-on, walk-length, walk-done, tail-to}
use Rattle.place.proofs.walk_tokens.Goals as goal

pub front_tail-tail-requires : goal.front_tail-tail-requires
front_tail-tail-requires c = tt

pub loop-i-init : goal.loop-i-init
loop-i-init c = walk-front c.args.line.now c.args.block c.args.up.now c.args.n c.args.k c.requires.1 c.requires.0 c.front_tail-tail.ensures

pub step_at-step-requires : goal.step_at-step-requires
step_at-step-requires c = tt

pub left-x-requires : goal.left-x-requires
left-x-requires c = walk-room c.loop-i.invariant c.step_at-step.result c.step_at-step.ensures c.loop-i-test.true

pub plain_run-run-requires : goal.plain_run-run-requires
plain_run-run-requires c = tt

pub loop-i-smaller : goal.loop-i-smaller
loop-i-smaller c = let m = walk-less c.loop-i.invariant c.step_at-step.result c.step_at-step.ensures c.loop-i-test.true in omega (arith, c.plain_run-run.ensures.0)

pub loop-i-preserved : goal.loop-i-preserved
loop-i-preserved c =
    let s = c.step_at-step in
    let r = c.plain_run-run in
    let w = walk-on c.loop-i.invariant s.result s.ensures c.loop-i-test.true c.left-x.ensures in
    walk-plain w r.result.end r.ensures.0 r.result.tail (tail-to _ _ _ s.result.tail r.ensures.0 r.ensures.1)

pub shape_of-up : goal.shape_of-up
shape_of-up c = walk-length c.loop-i.invariant

pub returns : goal.returns
returns c = walk-done c.loop-i.invariant c.loop-i-test.false
