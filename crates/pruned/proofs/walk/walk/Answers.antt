use Rattle.lines.proofs.LfLaws.{find-le}
use native.Mathlib.Omega.{arith}
use mathlib.Core.Path.{refl}
use Rattle.pruned.proofs.WalkCode.{walk_start, walk-full, walk-over, walk_end, walk-on}
use Rattle.pruned.proofs.walk.walk.Goals as goal

pub loop-i-init : goal.loop-i-init
loop-i-init c = let s = c.args in walk_start s.raw.now s.used.now s.p.now s.live.now s.was0 s.up0 s.top s.k0 s.i0 c.requires.0 c.requires.1

pub shape_of-live-then-live-k : goal.shape_of-live-then-live-k
shape_of-live-then-live-k c = c.loop-i.invariant.long

pub returns-then-live-k : goal.returns-then-live-k
returns-then-live-k c = walk-full c.loop-i.invariant c.if-live-k.true

pub shape_of-live-then-is_over : goal.shape_of-live-then-is_over
shape_of-live-then-is_over c = c.loop-i.invariant.long

pub returns-then-is_over : goal.returns-then-is_over
returns-then-is_over c = walk-over c.loop-i.invariant c.is_over.result c.is_over.ensures c.if-is_over.true

pub slice_bounds-next_flag-end : goal.slice_bounds-next_flag-end
slice_bounds-next_flag-end c = omega (arith, find-le 10 c.args.raw.now c.loop-i.i c.find_far-e.result c.loop-i.invariant.at.i≤ c.find_far-e.ensures)

pub bounds-live-k : goal.bounds-live-k
bounds-live-k c = omega (arith, c.if-live-k.false)

pub bounds-live-k-in-loop-i : goal.bounds-live-k-in-loop-i
bounds-live-k-in-loop-i c = omega (arith, c.if-live-k.false)

pub overflow_add-k : goal.overflow_add-k
overflow_add-k c = omega (arith, c.if-live-k.false)

pub loop-i-smaller : goal.loop-i-smaller
loop-i-smaller c = omega (arith, c.after-i.ensures, c.find_far-e.ensures, c.loop-i-test.true)

pub loop-i-preserved : goal.loop-i-preserved
loop-i-preserved c = walk-on c.loop-i.invariant c.loop-i-test.true c.if-live-k.false c.find_far-e.result c.find_far-e.ensures c.cut.result.now c.cut.ensures c.next_flag-f.result c.next_flag-f.ensures c.flag.result c.flag.ensures c.after-i.result c.after-i.ensures

pub shape_of-live : goal.shape_of-live
shape_of-live c = c.loop-i.invariant.long

pub returns : goal.returns
returns c = walk_end c.loop-i.invariant c.loop-i-test.false _ refl
