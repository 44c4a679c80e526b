-- What it is to fill the first entries of a lent table. Assumes nothing.
use Rattle.std.specs.Prelude.{ℕ, ◌≡◌, Bool, cond, List, [], ◌∷◌, ◌++◌, length, drop}

-- the first entries of d' are xs, r of them, and the others are as in d
pub record Filled (d xs d' : List ℕ) (r : ℕ) : Type 0 where
  pub place : r ≡ length xs
  pub holds : d' ≡ xs ++ drop (length xs) d

-- tests as entries: 1 and 0
unfoldable pub flags_of : List Bool → List ℕ
flags_of [] = []
flags_of (b ∷ bs) = cond b 1 0 ∷ flags_of bs
