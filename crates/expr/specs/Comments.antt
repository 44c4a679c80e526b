-- `strip_comments`: a text without its comments, with no regard to quotes. Assumes nothing.
use Rattle.std.specs.Prelude.{ℕ, Bool, true, false, cond, List, [], ◌∷◌}
use Prim.Native.Char.{code}
use Rattle.lines.specs.Ascii.{ascii}
use Rattle.lines.specs.Lf.{prefixed}

-- what is left of a text that begins inside a comment `/* .. */`, or outside: a closed comment leaves one space, one that is not closed
-- takes the rest, and so does `//`
unfoldable pub strip : List ℕ → Bool → List ℕ
strip [] inside = []
strip (a ∷ []) false = a ∷ []
strip (a ∷ []) true = []
strip (a ∷ b ∷ s) false =
    let opened = strip s true in
    let copied = a ∷ strip (b ∷ s) false in
    cond (prefixed (ascii "/*") (a ∷ b ∷ s)) opened (cond (prefixed (ascii "//") (a ∷ b ∷ s)) [] copied)
strip (a ∷ b ∷ s) true =
    let closed : List ℕ = code " " ∷ strip s false in
    let skipped = strip (b ∷ s) true in
    cond (prefixed (ascii "*/") (a ∷ b ∷ s)) closed skipped

-- `strip_comments`
unfoldable pub strip_comments : List ℕ → List ℕ
unfolding strip
strip_comments s = strip s false
