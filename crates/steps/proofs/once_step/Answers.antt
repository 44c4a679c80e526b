use mathlib.Core.Path.{refl, sym, ap, ◌∙◌}
use native.Mathlib.Omega.{arith}
use Prim.Native.Nat.{ℕ}
use lib.ListN.{replicate}
use lib.Seq.{length-take-le}
use Rattle.lines.specs.Lf.{lines_of}
use Rattle.reading.specs.Reading.{reading_of}
use Rattle.slots.proofs.SlotLaws.{wiped-zeros}
use Rattle.steps.proofs.Tame.{once-room}
use Rattle.steps.proofs.StepLaws.{once-left}
use Rattle.steps.proofs.Traces.{once-stands, once-trail}
use Rattle.steps.proofs.once_step.Goals as goal

pub optimize_once-n-requires : goal.optimize_once-n-requires
optimize_once-n-requires c = let p = c.requires.1 in once-room (reading_of c.args.m.mode.0) p.0 p.1.0 p.1.1.0 p.1.1.1.0 p.1.1.1.1

pub slice_bounds-moves_of-end : goal.slice_bounds-moves_of-end
slice_bounds-moves_of-end c = omega (arith, c.requires.0, c.requires.1.0.lines, c.requires.1.1.1.1.0.1.0, c.optimize_once-n.auto.marks)

pub slice_bounds-moves_of-end-2 : goal.slice_bounds-moves_of-end-2
slice_bounds-moves_of-end-2 c = sym (length-take-le _ _ (omega (arith, c.requires.0, c.requires.1.0.lines, c.requires.1.1.1.1.0.1.0, c.optimize_once-n.auto.marks)))

pub moves_of-requires : goal.moves_of-requires
moves_of-requires c = omega (arith, length-take-le c.args.rows c.optimize_once-n.new.marks (omega (arith, c.requires.0, c.requires.1.0.lines, c.requires.1.1.1.1.0.1.0, c.optimize_once-n.auto.marks)), c.requires.0, c.requires.1.0.lines, c.requires.1.1.1.1.0.1.1.0, c.optimize_once-n.auto.paths)

pub trace-s-requires : goal.trace-s-requires
trace-s-requires c = omega (arith, c.requires.0, c.requires.1.0.lines, c.requires.1.1.1.1.0.1.1.0, c.moves_of.auto.moves, c.optimize_once-n.auto.paths)

pub trace-requires : goal.trace-requires
trace-requires c = let p = c.optimize_once-n.ensures in let e = c.requires.0 in let w = p.moves in omega (arith, once-stands (reading_of c.args.m.mode.0) (lines_of c.args.src.now) e p.memory.1.1.1.0 c.moves_of.ensures c.trace-s.ensures.answer, w.fits, w.place, c.optimize_once-n.auto.moves)

pub shape_of-loops : goal.shape_of-loops
shape_of-loops c = c.wipe.auto.s ∙ c.optimize_once-n.auto.loops

pub shape_of-marks : goal.shape_of-marks
shape_of-marks c = c.wipe-2.auto.s ∙ c.optimize_once-n.auto.marks

pub shape_of-paths : goal.shape_of-paths
shape_of-paths c = c.trace-s.auto.moves ∙ (c.moves_of.auto.moves ∙ c.optimize_once-n.auto.paths)

pub shape_of-moves : goal.shape_of-moves
shape_of-moves c = c.trace.auto.moves ∙ c.optimize_once-n.auto.moves

pub shape_of-table : goal.shape_of-table
shape_of-table c = c.trace.auto.table ∙ c.trace-s.auto.table

pub returns : goal.returns
returns c =
    let p = c.optimize_once-n.ensures in
    let b = p.memory in
    let z = p.tables in
    let e = c.requires.0 in
    record { answer = p.answer; memory = once-left _ _ b.0 b.1.0 b.1.1.1.1.1; tables = (wiped-zeros refl c.optimize_once-n.auto.loops c.wipe.ensures, (wiped-zeros refl c.optimize_once-n.auto.marks c.wipe-2.ensures, (z.1.1.1.0, (z.0, (z.1.0, (z.1.1.0, (c.trace-s.ensures.memory ∙ ap (λ (n : ℕ). replicate n 0) (c.moves_of.auto.moves ∙ c.optimize_once-n.auto.paths), (z.1.1.1.1.0, (z.1.1.1.1.1, c.trace.ensures.memory ∙ ap (λ (n : ℕ). replicate n 0) c.optimize_once-n.auto.moves))))))))); origins = once-trail (reading_of c.args.m.mode.0) (lines_of c.args.src.now) e p.memory.1.1.1.0 c.moves_of.ensures c.args.table.now c.trace-s.ensures.answer p.moves c.trace-s.ensures.origins c.trace.ensures.origins }
