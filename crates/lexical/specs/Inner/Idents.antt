-- What inner functions and laws ask beside Idents: no promise of an entry hangs on it. Assumes nothing.
use Rattle.std.specs.Prelude.{ℕ, ◌+◌, ◌-◌, cond, List, [], ◌∷◌, ◌++◌, length, drop}
use Rattle.lines.specs.Lf.{part, is_empty}
use Rattle.std.specs.declared.option.Option.{Option}
use Rattle.text.specs.declared.Span.{Span}
use Rattle.std.specs.declared.option.Option.TheVariants.{Some, None}
use Rattle.lexical.specs.Lex.{strip_lexical}
use Rattle.lexical.specs.Idents.{chars_go, joins, no_word, words_go, words_in}

-- `ident_words`
unfoldable pub ident_words : List ℕ → List (List ℕ)
unfolding words_in strip_lexical
ident_words s = words_in (strip_lexical s)

-- the first word of characters whose place is i, where it begins and where it ends; `cur` is the word so far, which ends at i
unfoldable pub word_from : List (List ℕ) → ℕ → List ℕ → Option Span
word_from [] i cur = cond (no_word cur) None (Some (record { from = i - length cur; to = i }))
word_from (c ∷ cs) i cur =
    let more = word_from cs (i + length c) (cur ++ c) in
    let on = word_from cs (i + length c) [] in
    cond (joins c (is_empty cur)) more (cond (no_word cur) on (Some (record { from = i - length cur; to = i })))

-- the first word at or after the place i, where a character begins
unfoldable pub next_word : List ℕ → ℕ → Option Span
unfolding chars_go word_from
next_word t i = word_from (chars_go (drop i t) 0) i []

-- the words from a first one on: it, and those after its end
unfoldable pub words_by : List ℕ → Option Span → List (List ℕ)
unfolding chars_go words_go
words_by t (Some w) = part w.from w.to t ∷ words_go (chars_go (drop w.to t) 0) []
words_by t None = []
