-- Where lines end, in a lent table. Assumes nothing.
use Rattle.std.specs.Prelude.{ℕ, suc, ◌+◌, ◌*◌, cond, List, [], ◌∷◌, length, set}
use Rattle.place.specs.Region.{is_header}

-- the places where lines end that begin at i, put into a table from the entry k on, as far as it reaches
unfoldable pub ends_from : ℕ → ℕ → List (List ℕ) → List ℕ → List ℕ
ends_from k i [] d = d
ends_from k i (l ∷ ls) d = ends_from (suc k) (i + length l + 1) ls (set d k (i + length l))

-- where the line l ends, twice over, and one more where it opens a region
abbrev pub end_mark : ℕ → List ℕ → ℕ
end_mark e l = 2 * e + cond (is_header l) 1 0

-- the same for lines that begin at i
unfoldable pub end_marks : ℕ → List (List ℕ) → List ℕ
end_marks i [] = []
end_marks i (l ∷ ls) = end_mark (i + length l) l ∷ end_marks (suc (i + length l)) ls
