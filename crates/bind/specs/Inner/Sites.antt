-- The sites of lines by their records, as the walk goes down. Assumes nothing.
use Rattle.std.specs.Prelude.{ℕ, zero, suc, ◌+◌, ◌/◌, ◌%◌, ◌≤◌, min, ◌≡◌, cond, List, [], eqb, length, get_or, take, replicate}
use Rattle.lines.specs.Lf.{lines_of, unlines}
use Rattle.lines.specs.Acts.{apply}
use Rattle.records.specs.declared.LineRec.{LineRec}
use Rattle.records.specs.Inner.Records.{Told}
use Rattle.bind.specs.declared.Site.{Site}
use Rattle.bind.specs.Bind.{lines_within, bind_go}
use Rattle.bind.specs.Inner.Steps.{tabled, Rows}

-- where the first of m lines begins that opens a region, or n where there is none: the first has k above it and begins at p, and es has where
-- each line ends and whether it opens a region (place's end_marks)
unfoldable pub stop_by : List ℕ → ℕ → ℕ → ℕ → ℕ → ℕ
stop_by es n zero k p = n
stop_by es n (suc m) k p = cond (eqb (get_or es k 0 % 2) 1) p (stop_by es n m (suc k) (get_or es k 0 / 2 + 1))

-- above the first line, where the region there ends at e
unfoldable pub first_site : ℕ → Site
first_site e = record { top = 0; from = 0; to = 0; next = 0; end = e; row = 0; block = 0 }

-- line k of a text of n bytes, by its record r and by its region, from t to e
unfoldable pub site_of : ℕ → LineRec → ℕ → ℕ → ℕ → Site
site_of n r t e k = record { top = t; from = r.start; to = r.end; next = min (r.end + 1) n; end = e; row = k; block = r.block }

-- the tables are those of the n lines of t, no line is marked in m, and o has room for the result
pub record WalkedSites (t es : List ℕ) (n : ℕ) (bs ss m o : List ℕ) : Type 0 where
  pub told : Told t es bs n
  pub rows : Rows (tabled (lines_of t) bs ss) bs ss
  pub lines : lines_within (tabled (lines_of t) bs ss) ≡ lines_of t
  pub fits : length (lines_of t) ≤ length m
  pub unmarked : take (length (lines_of t)) m ≡ replicate (length (lines_of t)) 0
  pub room : length (unlines (apply (bind_go (tabled (lines_of t) bs ss) [] []) (lines_of t))) ≤ length o
