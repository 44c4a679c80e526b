-- What inner functions and laws ask beside Comments: no promise of an entry hangs on it. Assumes nothing.
use Rattle.std.specs.Prelude.{ℕ, Bool, true, not, ◌&&◌, List, [], ◌∷◌}
use Rattle.lines.specs.Ascii.{ascii}
use Rattle.lines.specs.Lf.{prefixed}

-- neither `/*` nor `//` stands anywhere in a text
unfoldable pub no_comment : List ℕ → Bool
unfolding prefixed
no_comment [] = true
no_comment (a ∷ s) = (not (prefixed (ascii "/*") (a ∷ s)) && not (prefixed (ascii "//") (a ∷ s))) && no_comment s
