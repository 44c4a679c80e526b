-- The moves of lines by their marks. Assumes nothing.
use Rattle.std.specs.Prelude.{ℕ, cond, List, [], ◌∷◌, eqb}
use Rattle.place.specs.Blocks.{top}
use Rattle.origins.specs.Inner.Codes.{far_move}
use Rattle.once.specs.Inner.Tables.{mark_goes, mark_sends}

-- of a line with the mark m, where n is that of the next: it is gone, it goes into the next, or it stands
abbrev pub mark_move : ℕ → ℕ → ℕ
mark_move m n = cond (eqb m mark_goes) far_move (cond (eqb m mark_sends) (cond (eqb n mark_sends) 0 1) 0)

unfoldable pub move_marks : List ℕ → List ℕ
unfolding top
move_marks [] = []
move_marks (m ∷ ms) = mark_move m (top ms) ∷ move_marks ms
