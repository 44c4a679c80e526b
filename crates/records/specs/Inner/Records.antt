-- The record of each line of a text. Assumes nothing.
use Rattle.std.specs.Prelude.{ℕ, zero, suc, ◌+◌, ◌-◌, ◌/◌, ◌%◌, ◌^◌, ◌≤◌, min, cond, ◌≡◌, List, [], ◌∷◌, ◌++◌, eqb, length, get_or, drop}
use Rattle.lines.specs.Lf.{lines_of}
use Rattle.place.specs.Region.{is_header}
use Rattle.place.specs.Inner.Ends.{end_marks}
use Rattle.records.specs.declared.LineRec.{LineRec}

-- a record of zeros, which also stands past the end
abbrev pub no_rec : LineRec
no_rec = record { start = 0; end = 0; region = record { 0 = 0 }; block = 0 }

-- the record of a line from i to e, of the region c and the block b
abbrev pub rec_at : ℕ → ℕ → ℕ → ℕ → LineRec
rec_at i e c b = record { start = i; end = e; region = record { 0 = c }; block = b }

-- the records of lines whose blocks are known: the first begins at i, and c is the region of the line above
unfoldable pub records_go : List (List ℕ) → List ℕ → ℕ → ℕ → List LineRec
records_go [] bs i c = []
records_go (l ∷ ls) [] i c = []
records_go (l ∷ ls) (b ∷ bs) i c =
    record { start = i; end = i + length l; region = record { 0 = cond (is_header l) (suc c) c }; block = b }
    ∷ records_go ls bs (suc (i + length l)) (cond (is_header l) (suc c) c)

-- the records of all lines
unfoldable pub records_of : List (List ℕ) → List ℕ → List LineRec
unfolding records_go
records_of ls bs = records_go ls bs 0 0

-- ---- the same by tables: es has where each line ends, twice over, and one more where it opens a region (place's end_marks), and bs its block

-- where a line begins that has k above it, the last of them a
abbrev pub start_below : ℕ → LineRec → ℕ
start_below k a = cond (eqb k 0) 0 (a.end + 1)

-- the region above it
abbrev pub region_below : ℕ → LineRec → ℕ
region_below k a = cond (eqb k 0) 0 a.region.0

-- numbers that such an a may have
abbrev pub Above : ℕ → LineRec → Type 0
Above k a = (start_below k a ≤ 2 ^ 63) × (region_below k a ≤ k)

-- the record of a line by its entries x and b: it begins at i, and c is the region above it
abbrev pub rec_by : ℕ → ℕ → ℕ → ℕ → LineRec
rec_by i c x b = rec_at i (x / 2) (c + x % 2) b

-- the records of m lines, the first with k above it
unfoldable pub records_by : List ℕ → List ℕ → ℕ → ℕ → ℕ → ℕ → List LineRec
records_by es bs zero k i c = []
records_by es bs (suc m) k i c = rec_by i c (get_or es k 0) (get_or bs k 0) ∷ records_by es bs m (suc k) (get_or es k 0 / 2 + 1) (c + get_or es k 0 % 2)

-- the last record of a window
abbrev pub last_record : List LineRec → LineRec
last_record d = get_or d (length d - 1) no_rec

-- a window d, whose last record is that of the line above, filled with the records of the lines that have k above them or more, of n in all, as
-- far as it reaches
unfoldable pub window_at : List ℕ → List ℕ → ℕ → ℕ → List LineRec → List LineRec
unfolding records_by
window_at es bs n k d = records_by es bs (min (length d) (n - k)) k (start_below k (last_record d)) (region_below k (last_record d)) ++ drop (min (length d) (n - k)) d

-- the table es is that of the n lines of t, and bs has an entry for each
pub record Told (t es bs : List ℕ) (n : ℕ) : Type 0 where
  pub count : n ≡ length (lines_of t)
  pub behind : List ℕ
  pub marks : es ≡ end_marks 0 (lines_of t) ++ behind
  pub long : length (lines_of t) ≤ length bs
