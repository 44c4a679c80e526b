use mathlib.Core.Path.{ap, ◌∙◌}
use native.Mathlib.Omega.{arith}
use lib.ListN.{length}
use Rattle.lines.specs.Lf.{lines_of}
use Rattle.place.specs.Loops.{inside_loop}
use Rattle.place.proofs.Fills.{flags-length}
use Rattle.place.proofs.Paths.{length-tops}
use Rattle.place.proofs.Nests.{length-loops}
use Rattle.reading.specs.Reading.{reading_of}
use Rattle.once.proofs.Zeros.{zeroed-wiped}
use Rattle.once.proofs.Passes.{filled-part, filled-to, filled-le, wrote-same}
use Rattle.engines.proofs.EngineLaws.{plain-filled}
use Rattle.engines.proofs.plain_drops.Goals as goal

pub wipe-requires : goal.wipe-requires
wipe-requires c = c.requires.1.1.1.1.1

pub block_paths-x-requires : goal.block_paths-x-requires
block_paths-x-requires c = let p = c.requires in (p.1.1.0, (p.1.1.1.0, p.1.1.1.1.0))

pub inside_loop-n-requires : goal.inside_loop-n-requires
inside_loop-n-requires c = c.requires.0

pub slice_bounds-flag_lines-end : goal.slice_bounds-flag_lines-end
slice_bounds-flag_lines-end c = omega (arith, filled-le c.block_paths-x.ensures.paths.0)

pub slice_bounds-flag_lines-end-2 : goal.slice_bounds-flag_lines-end-2
slice_bounds-flag_lines-end-2 c = omega (arith, filled-le c.inside_loop-n.ensures)

pub flag_lines-requires : goal.flag_lines-requires
flag_lines-requires c = let p = c.requires in let ls = lines_of c.args.text.now in let g = ap length (filled-part c.block_paths-x.ensures.paths.0) in let h = ap length (filled-part c.inside_loop-n.ensures) in (zeroed-wiped c.wipe.ensures, (p.1.0, (omega (arith, g, length-tops ls), omega (arith, h, flags-length (inside_loop ls), length-loops ls))))

pub shape_of-scratch : goal.shape_of-scratch
shape_of-scratch c = c.flag_lines.auto.scratch ∙ c.wipe.auto.s

pub shape_of-loops : goal.shape_of-loops
shape_of-loops c = c.inside_loop-n.auto.flags

pub shape_of-paths : goal.shape_of-paths
shape_of-paths c = c.block_paths-x.auto.table

pub shape_of-up : goal.shape_of-up
shape_of-up c = c.block_paths-x.auto.up

pub shape_of-flags : goal.shape_of-flags
shape_of-flags c = c.flag_lines.auto.flags

pub returns : goal.returns
returns c =
    let a = c.args in
    let b = c.block_paths-x.ensures.paths in
    let f = c.inside_loop-n.ensures in
    let e = c.flag_lines.ensures in
    record { answer = plain-filled (reading_of a.mode.0) (lines_of a.text.now) (filled-part b.0) (filled-part f) e.answer; memory = (wrote-same e.memory c.wipe.ensures, (filled-to f, (filled-to b.0, b.1))) }
