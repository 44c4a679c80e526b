-- Two ways to find the lines that `optimize_once` drops: a search downwards from each store, and one sweep from the last line up. Assumes nothing.
use Rattle.std.specs.Prelude.{ℕ, Bool, cond, List, [], ◌∷◌, ltb}
use Rattle.parse.specs.Parse.{parse_of}
use Rattle.place.specs.Region.{is_header}
use Rattle.reading.specs.Reading.{Reading}
use Rattle.reading.specs.Uses.{line_reads, line_stores}
use Rattle.once.specs.Once.{Spot, spots, Next, none, read, write, dropped_by, dropped}

-- ---- the plain engine: from each store downwards in its region, until a line reads or stores the register

-- whether each line goes
unfoldable pub plain_drops : Reading → List Spot → List Bool
unfolding dropped
plain_drops R [] = []
plain_drops R (d ∷ below) = dropped R d below ∷ plain_drops R below

unfoldable pub plain_engine : Reading → List (List ℕ) → List Bool
unfolding plain_drops spots
plain_engine R ls = plain_drops R (spots ls)

-- ---- the sweep, as in the Rust: from the last line up, with a table that has for each register what is done next with it in the region

-- the table above a line, where `next` is the one below it: a read wins over a store of the same line, and a header empties it
unfoldable pub table_above : Spot → (ℕ → Next) → ℕ → Next
table_above s next v =
    let stored = cond (line_stores v s.line) (write s.path) (next v) in
    cond (is_header s.line) none (cond (ltb 0 (line_reads v s.line)) read stored)

-- the table above lines; it is empty at the end
unfoldable pub swept : List Spot → ℕ → Next
unfolding table_above
swept [] v = none
swept (s ∷ ss) v = table_above s (swept ss) v

-- whether each line goes, by the table above the lines below it
unfoldable pub sweep_drops : Reading → List Spot → List Bool
unfolding swept
sweep_drops R [] = []
sweep_drops R (d ∷ below) = dropped_by R (swept below) d below (parse_of d.line) ∷ sweep_drops R below

unfoldable pub sweep_engine : Reading → List (List ℕ) → List Bool
unfolding sweep_drops spots
sweep_engine R ls = sweep_drops R (spots ls)
