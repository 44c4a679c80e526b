-- `starts_statement`: whether a line may begin a statement, by the last character of the nearest line above that is not blank once cleaned.
-- Assumes nothing.
use Rattle.std.specs.Prelude.{ℕ, Bool, true, cond, List, [], ◌∷◌, eqb}
use Rattle.lines.specs.Ascii.{ascii}
use Rattle.lines.specs.Lf.{among}
use Rattle.text.specs.Trim.{to_of}
use Rattle.lexical.specs.Lex.{last_of}

-- nothing is left of a text without the white space at its ends
abbrev pub is_blank : List ℕ → Bool
is_blank t = eqb (to_of t) 0

-- after a cleaned line: where it is blank, as it was before it (st); else whether it ends in `;`, `{`, `}` or `:`
unfoldable pub starts_after : List ℕ → Bool → Bool
starts_after t st = cond (is_blank t) st (among (ascii ";{}:") (last_of t))

-- of the cleaned lines above, the nearest first
unfoldable pub starts_above : List (List ℕ) → Bool
unfolding starts_after
starts_above [] = true
starts_above (t ∷ ts) = starts_after t (starts_above ts)

-- the same going down the cleaned lines: for each whether it may begin a statement
unfoldable pub starts_go : List (List ℕ) → Bool → List Bool
unfolding starts_after
starts_go [] st = []
starts_go (t ∷ ts) st = st ∷ starts_go ts (starts_after t st)
