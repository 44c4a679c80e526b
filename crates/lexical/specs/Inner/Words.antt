-- The words that an iterator over them has still to give. Assumes nothing.
use Rattle.std.specs.Prelude.{ℕ, List, [], drop}
use Rattle.lexical.specs.declared.idents.Words.{Words}
use Rattle.lexical.specs.Idents.{chars_go, words_go}

-- the words of a text from a place on
unfoldable pub words_from : List ℕ → ℕ → List (List ℕ)
unfolding chars_go words_go
words_from t i = words_go (chars_go (drop i t) 0) []

-- the words that are left
abbrev pub words_left : Words → List (List ℕ)
words_left w = words_from w.text.now w.at
