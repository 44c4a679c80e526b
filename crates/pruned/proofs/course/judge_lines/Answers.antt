use Rattle.lines.proofs.LfLaws.{find-le}
use native.Mathlib.Omega.{arith}
use Rattle.pruned.proofs.CourseCode.{course-start, lo-in, on-here, course-end, course-on, course-stop, course-up}
use Rattle.pruned.proofs.course.judge_lines.Goals as goal

pub loop-live-init : goal.loop-live-init
loop-live-init c = let s = c.args in let r = c.requires in course-start s.raw.now s.pruned.now s.used.now s.live.now s.m s.top0 r.0.0 r.0.1.0 r.0.1.1 r.1.0 r.1.1

pub at_end-requires : goal.at_end-requires
at_end-requires c = omega (arith, c.loop-live.invariant.places)

pub shape_of-live-then-i-pruned : goal.shape_of-live-then-i-pruned
shape_of-live-then-i-pruned c = c.loop-live.invariant.long

pub returns-then-i-pruned : goal.returns-then-i-pruned
returns-then-i-pruned c = course-end c.loop-live.invariant c.byte_at.result c.byte_at.ensures c.if-byte_at-eq1.true c.if-i-pruned.true c.at_end.result c.at_end.ensures

pub slice_bounds-step-end : goal.slice_bounds-step-end
slice_bounds-step-end c = omega (arith, find-le 10 c.args.pruned.now c.loop-live.i c.find_byte-e.result c.loop-live.invariant.i≤ c.find_byte-e.ensures)

pub step-r-requires : goal.step-r-requires
step-r-requires c = let h = c.loop-live.invariant in ((lo-in h, on-here h c.byte_at.result c.byte_at.ensures c.if-byte_at-eq1.true), (h.at≤, (h.known, h.above)))

pub overflow_add-j : goal.overflow_add-j
overflow_add-j c = omega (arith, c.loop-live.invariant.j≤)

pub loop-live-smaller-then-byte_at-eq1 : goal.loop-live-smaller-then-byte_at-eq1
loop-live-smaller-then-byte_at-eq1 c = omega (arith, c.after-i.ensures, c.find_byte-e.ensures, c.if-i-pruned.false)

pub loop-live-preserved-then-byte_at-eq1 : goal.loop-live-preserved-then-byte_at-eq1
loop-live-preserved-then-byte_at-eq1 c = course-on c.loop-live.invariant c.byte_at.result c.byte_at.ensures c.if-byte_at-eq1.true c.if-i-pruned.false c.find_byte-e.result c.find_byte-e.ensures _ c.step-r.auto.live c.step-r.result.stop c.step-r.result.at c.step-r.result.top c.step-r.ensures c.after-i.result c.after-i.ensures

pub shape_of-live-then-at-raw : goal.shape_of-live-then-at-raw
shape_of-live-then-at-raw c = c.loop-live.invariant.long

pub returns-then-at-raw : goal.returns-then-at-raw
returns-then-at-raw c = course-stop c.loop-live.invariant c.byte_at.result c.byte_at.ensures c.if-byte_at-eq1.false c.if-at-raw.true

pub loop-live-smaller : goal.loop-live-smaller
loop-live-smaller c = omega (arith, c.after-at.ensures, c.find_byte.ensures, c.if-at-raw.false)

pub loop-live-preserved : goal.loop-live-preserved
loop-live-preserved c = course-up c.loop-live.invariant c.byte_at.result c.byte_at.ensures c.if-byte_at-eq1.false c.if-at-raw.false c.find_byte.result c.find_byte.ensures c.after-at.result c.after-at.ensures
