-- Whether each line goes, as the two engines find it: over tables of the block paths and of the loops, and by marks. Assumes nothing.
use Rattle.std.specs.Prelude.{ℕ, Bool, List, [], ◌∷◌, eqb, drop}
use Rattle.place.specs.Blocks.{top}
use Rattle.reading.specs.Reading.{Reading}
use Rattle.once.specs.Inner.Tables.{mark_goes, is_set, first_drops}

-- by the block paths of the lines; fs say whether each stands in a loop
unfoldable pub drops_in : Reading → List (List ℕ) → List ℕ → List ℕ → List Bool
unfolding first_drops top
drops_in R [] ps fs = []
drops_in R (l ∷ ls) ps fs = first_drops R (l ∷ ls) ps (is_set (top fs)) ∷ drops_in R ls (drop 1 ps) (drop 1 fs)

-- by their marks
unfoldable pub goes_in : List ℕ → List Bool
goes_in [] = []
goes_in (m ∷ ms) = eqb m mark_goes ∷ goes_in ms
