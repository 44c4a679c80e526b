use mathlib.Core.Bool.{◌||◌}
use mathlib.Core.Path.{◌≡◌}
use lib.ListN.{length}
use Rattle.lines.specs.Lf.{parts_of}
use Rattle.lines.specs.Inner.Pieces.{pieces_left}
use Rattle.bind.specs.Inner.Steps.{bound_at, mark_row, any_pass, noted_all}
use Rattle.bind.proofs.mark_names.Given as goal

abbrev pub invariant-loop-piece : goal.invariant-loop-piece
invariant-loop-piece l =
    let left = pieces_left l.piece-iterator in
    let bound = bound_at l.text l.s l.blocks l.starts in
    let row = mark_row l.text l.s in
    (length l.marks ≡ length l.initial.marks)
    × ((noted_all bound row left l.marks ≡ noted_all bound row (parts_of 44 l.body) l.initial.marks)
    × (l.any || any_pass bound left ≡ any_pass bound (parts_of 44 l.body)))
