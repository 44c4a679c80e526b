-- The next lines that use a register. The number of a line is how many lines there are from it on, and 0 stands for no line. Assumes nothing.
use Rattle.std.specs.Prelude.{ℕ, suc, Bool, cond, List, [], ◌∷◌, ltb, length}
use Rattle.place.specs.Region.{is_header}
use Rattle.reading.specs.Uses.{line_reads, line_stores}

-- the number of the first line that passes a test
unfoldable pub first_by : (List ℕ → Bool) → List (List ℕ) → ℕ
first_by f [] = 0
first_by f (l ∷ ls) = cond (f l) (suc (length ls)) (first_by f ls)

-- of the first line that reads register v
abbrev pub read_below : ℕ → List (List ℕ) → ℕ
read_below v ls = first_by (λ (l : List ℕ). ltb 0 (line_reads v l)) ls

-- of the first line that stores it
abbrev pub store_from : ℕ → List (List ℕ) → ℕ
store_from v ls = first_by (λ (l : List ℕ). line_stores v l) ls

-- of the first header
abbrev pub head_from : List (List ℕ) → ℕ
head_from ls = first_by (λ (l : List ℕ). is_header l) ls
