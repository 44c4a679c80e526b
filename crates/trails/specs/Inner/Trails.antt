-- The moves of one pass after another in one table of raw moves. Assumes nothing.
use Rattle.std.specs.Prelude.{ℕ, suc, cond, List, [], ◌∷◌, get_or, eqb}
use Rattle.origins.specs.Inner.Codes.{far_move}

-- the lines that stand by their moves, where the first of all is line i
unfoldable pub standing_from : List ℕ → ℕ → List ℕ
standing_from [] i = []
standing_from (m ∷ ms) i = cond (eqb m 0) (i ∷ standing_from ms (suc i)) (standing_from ms (suc i))

-- the move of a line that goes to the n-th that stands below it, where the lines below have the moves ms: it is gone where there are not so many
abbrev pub sent_by : List ℕ → ℕ → ℕ
sent_by ms n = get_or (0 ∷ standing_from ms 1) n far_move

-- raw moves after a pass, which has a move for each line that stands
unfoldable pub thinned : List ℕ → List ℕ → List ℕ
unfolding standing_from
thinned [] ns = []
thinned (m ∷ ms) [] = m ∷ ms
thinned (m ∷ ms) (n ∷ ns) = cond (eqb m 0) (sent_by ms n ∷ thinned ms ns) (m ∷ thinned ms (n ∷ ns))
