use Rattle.lines.proofs.LfLaws.{find-le}
use native.Mathlib.Omega.{arith}
use Rattle.pruned.proofs.SeekCode.{stretch-start, stretch-known, stretch-on, stretch-done}
use Rattle.pruned.proofs.walk.stretch.Goals as goal

pub returns-then-lo-stop : goal.returns-then-lo-stop
returns-then-lo-stop c = let s = c.args in stretch-known s.live.now s.lo s.stop c.requires.0.1 c.if-lo-stop.true (c.requires.1.1 c.if-lo-stop.true)

pub loop-i-init : goal.loop-i-init
loop-i-init c = let s = c.args in stretch-start s.raw.now s.used.now s.live.now s.lo s.at c.requires.0.0 c.requires.0.1 c.requires.1.0

pub slice_bounds-may_go-end : goal.slice_bounds-may_go-end
slice_bounds-may_go-end c = omega (arith, find-le 10 c.args.raw.now c.loop-i.i c.find_far-e.result c.loop-i.invariant.i≤ c.find_far-e.ensures)

pub returns-then-not-go : goal.returns-then-not-go
returns-then-not-go c = stretch-done c.loop-i.invariant

pub overflow_add-k : goal.overflow_add-k
overflow_add-k c = omega (arith, c.loop-i.invariant.room)

pub returns-then-byte_at-ne1 : goal.returns-then-byte_at-ne1
returns-then-byte_at-ne1 c = stretch-done c.loop-i.invariant

pub overflow_add-k-in-loop-i : goal.overflow_add-k-in-loop-i
overflow_add-k-in-loop-i c = omega (arith, c.loop-i.invariant.room)

pub loop-i-smaller : goal.loop-i-smaller
loop-i-smaller c = omega (arith, c.after-i.ensures, c.find_far-e.ensures, c.loop-i-test.true)

pub loop-i-preserved : goal.loop-i-preserved
loop-i-preserved c = stretch-on c.loop-i.invariant c.loop-i-test.true c.find_far-e.result c.find_far-e.ensures c.cut.result.now c.cut.ensures c.may_go-go.result c.may_go-go.ensures c.if-not-go.false c.byte_at.result c.byte_at.ensures c.if-byte_at-ne1.false c.after-i.result c.after-i.ensures

pub returns : goal.returns
returns c = stretch-done c.loop-i.invariant
