use mathlib.Core.Path.{refl, sym, ap, ◌∙◌}
use native.Mathlib.Omega.{arith}
use Prim.Native.Nat.{ℕ}
use lib.ListN.{replicate}
use lib.Seq.{length-take-le}
use Rattle.lines.specs.Lf.{lines_of}
use Rattle.slots.proofs.SlotLaws.{wiped-zeros}
use Rattle.steps.proofs.Tame.{bind-room}
use Rattle.steps.proofs.StepLaws.{bind_left}
use Rattle.steps.proofs.Traces.{bind-trail}
use Rattle.steps.proofs.bind_step.Goals as goal

pub bind_declarators-n-requires : goal.bind_declarators-n-requires
bind_declarators-n-requires c = let p = c.requires.1 in bind-room c.args.m.mode.0 p.0 p.1.0 p.1.1.0 p.1.1.1

pub slice_bounds-moves_of-end : goal.slice_bounds-moves_of-end
slice_bounds-moves_of-end c = omega (arith, c.requires.0, c.requires.1.0.lines, c.requires.1.1.1.1.1.0, c.bind_declarators-n.auto.marks)

pub slice_bounds-moves_of-end-2 : goal.slice_bounds-moves_of-end-2
slice_bounds-moves_of-end-2 c = sym (length-take-le _ _ (omega (arith, c.requires.0, c.requires.1.0.lines, c.requires.1.1.1.1.1.0, c.bind_declarators-n.auto.marks)))

pub moves_of-requires : goal.moves_of-requires
moves_of-requires c = omega (arith, length-take-le c.args.rows c.bind_declarators-n.new.marks (omega (arith, c.requires.0, c.requires.1.0.lines, c.requires.1.1.1.1.1.0, c.bind_declarators-n.auto.marks)), c.requires.0, c.requires.1.0.lines, c.requires.1.1.1.1.1.1.0, c.bind_declarators-n.auto.blocks)

pub trace-requires : goal.trace-requires
trace-requires c = omega (arith, c.requires.0, c.requires.1.0.lines, c.requires.1.1.1.1.1.1.0, c.moves_of.auto.moves, c.bind_declarators-n.auto.blocks)

pub shape_of-starts : goal.shape_of-starts
shape_of-starts c = c.wipe.auto.s ∙ c.bind_declarators-n.auto.starts

pub shape_of-marks : goal.shape_of-marks
shape_of-marks c = c.wipe-2.auto.s ∙ c.bind_declarators-n.auto.marks

pub shape_of-blocks : goal.shape_of-blocks
shape_of-blocks c = c.trace.auto.moves ∙ (c.moves_of.auto.moves ∙ c.bind_declarators-n.auto.blocks)

pub shape_of-ends : goal.shape_of-ends
shape_of-ends c = c.wipe-3.auto.table ∙ c.bind_declarators-n.auto.ends

pub returns : goal.returns
returns c =
    let p = c.bind_declarators-n.ensures in
    let e = c.requires.0 in
    record { answer = p.answer; memory = bind_left _ _ p.tables.1.1; tables = (wiped-zeros refl c.bind_declarators-n.auto.starts c.wipe.ensures, (wiped-zeros refl c.bind_declarators-n.auto.marks c.wipe-2.ensures, (c.trace.ensures.memory ∙ ap (λ (n : ℕ). replicate n 0) (c.moves_of.auto.moves ∙ c.bind_declarators-n.auto.blocks), (c.wipe-3.ensures ∙ ap (λ (n : ℕ). replicate n 0) c.bind_declarators-n.auto.ends, p.index)))); origins = bind-trail c.args.m.mode.0 (lines_of c.args.src.now) c.args.table.now e p.marked c.moves_of.ensures c.trace.ensures.origins }
