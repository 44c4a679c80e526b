-- What inner functions and laws ask beside Lf: no promise of an entry hangs on it. Assumes nothing.
use Rattle.std.specs.Prelude.{ℕ, zero, suc, ◌+◌, ◌*◌, Bool, true, false, cond, ◌&&◌, List, [], ◌∷◌, ◌==◌, slice_index}
use Prim.Native.Char.{code}

-- where the line begins that ends at the place e: after the last LF before it, or at the front
unfoldable pub line_start : List ℕ → ℕ → ℕ
line_start s zero = 0
line_start s (suc j) = cond (slice_index s j == (code "\n")) (suc j) (line_start s j)

-- which bytes are b, as a number: 128 in the place of each of these, 0 in the place of another
unfoldable pub marks : ℕ → List ℕ → ℕ
marks b [] = 0
marks b (x ∷ xs) = marks b xs * 256 + cond (x == b) 128 0

-- no byte is b
unfoldable pub lacks : ℕ → List ℕ → Bool
lacks b [] = true
lacks b (x ∷ xs) = cond (x == b) false (lacks b xs)

-- no line holds an LF
unfoldable pub no_lf : List (List ℕ) → Bool
unfolding lacks
no_lf [] = true
no_lf (l ∷ ls) = lacks (code "\n") l && no_lf ls
