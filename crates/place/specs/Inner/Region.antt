-- What inner functions and laws ask beside Region: no promise of an entry hangs on it. Assumes nothing.
use Rattle.std.specs.Prelude.{ℕ, zero, suc, ◌-◌, ◌^◌, Bool, false, cond, ◌&&◌, List, [], ◌∷◌, take, ltb}
use Prim.Native.Char.{code}
use Rattle.lines.specs.Lf.{up_to}
use Rattle.place.specs.Region.{is_header}

-- the first line is a header
unfoldable pub headed : List (List ℕ) → Bool
unfolding is_header
headed [] = false
headed (l ∷ ls) = is_header l

-- ---- by number, as in the Rust

-- the region of each line; c is that of the line above
unfoldable pub regions_go : List (List ℕ) → ℕ → List ℕ
unfolding is_header
regions_go [] c = []
regions_go (l ∷ ls) c = cond (is_header l) (suc c) c ∷ regions_go ls (cond (is_header l) (suc c) c)

-- `regions`
unfoldable pub regions : List (List ℕ) → List ℕ
unfolding regions_go
regions ls = regions_go ls 0

-- the same of one line, for a number that may be the largest there is: that one stays
unfoldable pub region_next : ℕ → List ℕ → ℕ
unfolding is_header
region_next c l = cond (is_header l && ltb c (2 ^ 64 - 1)) (suc c) c

-- the same of bytes in LF form: how many stand above the first header; the first k belong to a line that is passed
unfoldable pub up_header : ℕ → List ℕ → ℕ
up_header k [] = 0
up_header (suc k) (x ∷ xs) = suc (up_header k xs)
up_header zero (x ∷ xs) = cond (is_header (take (up_to (code "\n") (x ∷ xs)) (x ∷ xs))) 0 (suc (up_header (up_to (code "\n") (x ∷ xs)) xs))

-- how many bytes the region takes that the first line opens
abbrev pub region_len : List ℕ → ℕ
region_len l = up_header (suc (up_to (code "\n") l)) l
