use mathlib.Core.Path.{ap, ◌∙◌}
use native.Mathlib.Omega.{arith}
use lib.ListN.{length}
use Rattle.lines.specs.Lf.{lines_of}
use Rattle.place.specs.Inner.Ends.{ends_from}
use Rattle.place.proofs.Paths.{length-tops}
use Rattle.decls.proofs.SeenLaws.{wiped-most}
use Rattle.reading.specs.Reading.{reading_of}
use Rattle.once.proofs.BackLaws.{ends_of}
use Rattle.once.proofs.Zeros.{zeroed-wiped}
use Rattle.once.proofs.Passes.{filled-part, filled-to, filled-le, wrote-same, marks-filled}
use Rattle.once.proofs.decide.Goals as goal

pub wipe-requires : goal.wipe-requires
wipe-requires c = c.requires.1.1.1.1.1.0

pub block_paths-x-requires : goal.block_paths-x-requires
block_paths-x-requires c = (c.requires.1.1.0, (c.requires.1.1.1.0, c.requires.1.1.1.1.0))

pub fill_loops-n-requires : goal.fill_loops-n-requires
fill_loops-n-requires c =
    let b = c.block_paths-x.ensures in
    (b.loops, (b.paths.0.place ∙ length-tops (lines_of c.args.text.now), c.requires.0))

pub slice_bounds-fill_marks-end : goal.slice_bounds-fill_marks-end
slice_bounds-fill_marks-end c = omega (arith, filled-le c.block_paths-x.ensures.paths.0)

pub slice_bounds-fill_marks-end-2 : goal.slice_bounds-fill_marks-end-2
slice_bounds-fill_marks-end-2 c = omega (arith, filled-le c.fill_loops-n.ensures)

pub fill_marks-requires : goal.fill_marks-requires
fill_marks-requires c =
    let a = c.args in
    let b = c.block_paths-x.ensures in
    (zeroed-wiped c.wipe.ensures, (c.requires.1.0, (ap length (filled-part b.paths.0) ∙ length-tops (lines_of a.text.now), (c.requires.1.1.1.1.1.1, ends_of a.text.now _ _ (wiped-most (length a.ends.now) _ c.wipe-2.ensures) b.ends))))

pub shape_of-scratch : goal.shape_of-scratch
shape_of-scratch c = c.fill_marks.auto.scratch ∙ c.wipe.auto.s

pub shape_of-loops : goal.shape_of-loops
shape_of-loops c = c.fill_loops-n.auto.loops

pub shape_of-marks : goal.shape_of-marks
shape_of-marks c = c.fill_marks.auto.marks

pub shape_of-paths : goal.shape_of-paths
shape_of-paths c = c.block_paths-x.auto.table

pub shape_of-up : goal.shape_of-up
shape_of-up c = c.block_paths-x.auto.up

pub shape_of-near : goal.shape_of-near
shape_of-near c = c.fill_marks.auto.near

pub shape_of-far : goal.shape_of-far
shape_of-far c = c.fill_marks.auto.far

pub shape_of-stores : goal.shape_of-stores
shape_of-stores c = c.fill_marks.auto.stores

pub shape_of-notes : goal.shape_of-notes
shape_of-notes c = c.fill_marks.auto.notes

pub shape_of-ends : goal.shape_of-ends
shape_of-ends c = c.block_paths-x.auto.ends ∙ c.wipe-2.auto.table

pub returns : goal.returns
returns c =
    let a = c.args in
    let b = c.block_paths-x.ensures in
    let f = c.fill_loops-n.ensures in
    let e = c.fill_marks.ensures in
    record { answer = marks-filled (reading_of a.mode.0) (lines_of a.text.now) (filled-part b.paths.0) (filled-part f) e.answer; memory = (wrote-same e.memory c.wipe.ensures, (filled-to f, (filled-to b.paths.0, b.paths.1))); tables = e.tables; ends = b.ends ∙ ap (ends_from 0 0 (lines_of a.text.now)) c.wipe-2.ensures }
