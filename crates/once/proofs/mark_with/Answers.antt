use Prim.Native.Nat.{◌+◌, min}
use mathlib.Core.Path.{refl, ap, ◌∙◌}
use native.Mathlib.Omega.{arith}
use lib.ListN.{length}
use Rattle.lines.proofs.LfLaws.{find-le}
use Rattle.lines.proofs.OutLaws.{writing-length}
use Rattle.reading.specs.Reading.{reading_of}
use Rattle.once.proofs.Zeros.{zeroed-as}
use Rattle.once.proofs.NotedFills.{rows_start, rows_on, area-begin, area-after, one_at}
use Rattle.once.proofs.Fills.{fill_start, fill-place, fill_on, fill_end}
use Rattle.once.proofs.mark_with.Goals as goal

pub loop-i-init : goal.loop-i-init
loop-i-init c =
    let a = c.args in
    let p = c.requires in
    (refl, (p.0, (fill_start (reading_of a.mode.0) a.text.now a.paths.now a.loops.now a.marks.now p.1.0, (rows_start a.text.now, area-begin a.text.now))))

pub end_at-e-requires : goal.end_at-e-requires
end_at-e-requires c = let l = c.loop-i in c.requires.1.1.1.1.1 l.k l.i l.invariant.1.1.1.0

pub area_at-run-requires : goal.area_at-run-requires
area_at-run-requires c = (omega (arith, c.end_at-e.ensures), find-le 10 c.args.text.now c.loop-i.i c.end_at-e.result (omega (arith, c.loop-i-test.true)) c.end_at-e.ensures)

pub mark_line-requires : goal.mark_line-requires
mark_line-requires c =
    let a = c.args in
    let p = c.requires in
    let w = c.area_at-run in
    let e = c.end_at-e in
    let t = c.loop-i-test.true in
    let l = c.loop-i in
    (record { here = t; end = e.ensures; above = l.invariant.1.1.0.k≤; rows = l.invariant.1.1.1.0 }, (l.invariant.1.0, (one_at a.text.now l.i l.k e.result (min (e.result + 1) (length a.text.now)) t e.ensures refl l.invariant.1.1.1.0 l.run w.result w.ensures l.invariant.1.1.1.1 a.notes.now p.1.1.0, (p.1.1.1.0, (p.1.1.1.1.0, p.1.1.1.1.1)))))

pub bounds-marks-k : goal.bounds-marks-k
bounds-marks-k c =
    let w = c.area_at-run in
    let e = c.end_at-e in
    fill-place c.loop-i.invariant.1.1.0 c.loop-i-test.true e.result w.result e.ensures w.ensures

pub overflow_add-k : goal.overflow_add-k
overflow_add-k c = omega (arith, c.loop-i.invariant.1.1.0.k≤, c.loop-i-test.true)

pub loop-i-smaller : goal.loop-i-smaller
loop-i-smaller c = omega (arith, c.after-i.ensures, c.end_at-e.ensures, c.loop-i-test.true)

pub loop-i-preserved : goal.loop-i-preserved
loop-i-preserved c =
    let a = c.args in
    let n = c.after-i in
    let m = c.mark_line in
    let w = c.area_at-run in
    let e = c.end_at-e in
    let t = c.loop-i-test.true in
    let l = c.loop-i in
    (m.ensures.memory ∙ l.invariant.0, (zeroed-as m.ensures.memory l.invariant.1.0, (fill_on l.invariant.1.1.0 t e.result w.result e.ensures w.ensures n.result m.result n.ensures m.ensures.answer, (rows_on a.text.now l.i l.k e.result n.result l.invariant.1.1.1.0 t e.ensures n.ensures, area-after a.text.now l.i l.k e.result n.result t e.ensures n.ensures l.invariant.1.1.1.0 l.run w.result w.ensures l.invariant.1.1.1.1))))

pub shape_of-scratch : goal.shape_of-scratch
shape_of-scratch c = ap length c.loop-i.invariant.0

pub shape_of-marks : goal.shape_of-marks
shape_of-marks c = writing-length c.loop-i.invariant.1.1.0.writing

pub returns : goal.returns
returns c =
    record { answer = fill_end c.loop-i.invariant.1.1.0 c.loop-i-test.false; memory = c.loop-i.invariant.0 }
