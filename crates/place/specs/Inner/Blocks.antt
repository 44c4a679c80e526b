-- What inner functions and laws ask beside Blocks: no promise of an entry hangs on it. Assumes nothing.
use Rattle.std.specs.Prelude.{ℕ, zero, suc, Bool, true, false, ◌&&◌, List, [], ◌∷◌}
use Rattle.place.specs.Blocks.{Brace, blocks, brace_of, cleaned, closes, opens, neither}

-- `block_ids`
abbrev pub block_ids : List (List ℕ) → List ℕ
block_ids ls = blocks (cleaned ls)

-- ---- the condition of the law for a tail: no brace is closed that was not opened in it; d are open

-- a brace may stand there
unfoldable pub may_at : Brace → ℕ → Bool
may_at opens d = true
may_at closes zero = false
may_at closes (suc d) = true
may_at neither d = true

-- how many are open after it
unfoldable pub depth_at : Brace → ℕ → ℕ
depth_at opens d = suc d
depth_at closes zero = zero
depth_at closes (suc d) = d
depth_at neither d = d

-- how many are open after a line
unfoldable pub depth_after : List ℕ → ℕ → ℕ
unfolding depth_at
depth_after [] d = d
depth_after (x ∷ xs) d = depth_after xs (depth_at (brace_of x) d)

-- every brace of a line may stand there
unfoldable pub own_line : List ℕ → ℕ → Bool
unfolding may_at depth_at
own_line [] d = true
own_line (x ∷ xs) d = may_at (brace_of x) d && own_line xs (depth_at (brace_of x) d)

-- and of lines
unfoldable pub own_go : List (List ℕ) → ℕ → Bool
unfolding own_line depth_after
own_go [] d = true
own_go (l ∷ ls) d = own_line l d && own_go ls (depth_after l d)

-- of cleaned lines, read in order, none closes what they did not open
unfoldable pub own : List (List ℕ) → Bool
unfolding own_go
own ls = own_go ls 0
