-- What a pass decides of each line, and the lines that it makes of them. Assumes nothing.
use Rattle.std.specs.Prelude.{ℕ, List, [], ◌∷◌, ◌++◌}

-- a line stays, becomes another, has its value taken into the line n lines further down, or goes
pub data Act : Type 0 where
  keep : Act
  become : List ℕ → Act
  into : ℕ → Act
  gone : Act

-- the lines that one line becomes
unfoldable pub act : Act → List ℕ → List (List ℕ)
act keep l = l ∷ []
act (become x) l = x ∷ []
act (into n) l = []
act gone l = []

-- the lines that a list of lines becomes, one act for each
unfoldable pub apply : List Act → List (List ℕ) → List (List ℕ)
unfolding act
apply [] ls = []
apply (a ∷ more) [] = []
apply (a ∷ more) (l ∷ ls) = act a l ++ apply more ls
