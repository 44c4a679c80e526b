-- `ident_words`: the words of an expression that are no registers. Assumes nothing.
use Rattle.std.specs.Prelude.{ℕ, zero, suc, ◌-◌, ◌%◌, max, Bool, true, cond, not, ◌&&◌, ◌||◌, List, [], ◌∷◌, ◌++◌, take, drop}
use Prim.Native.Char.{code}
use Rattle.lines.specs.Ascii.{ascii}
use Rattle.lines.specs.Lf.{within, prefixed, is_empty}
use Rattle.text.specs.Class.{is_name}
use Rattle.text.specs.Utf8Form.{seq_len}
use Rattle.text.specs.Trim.{point}

-- the bytes of the character at the head of a text; a byte that begins none stands alone
unfoldable pub char_len : List ℕ → ℕ
char_len l = max 1 (seq_len l)

-- the characters of a text; k bytes of one that has begun are still to pass
unfoldable pub chars_go : List ℕ → ℕ → List (List ℕ)
unfolding char_len
chars_go [] k = []
chars_go (x ∷ xs) (suc k) = chars_go xs k
chars_go (x ∷ xs) zero = take (char_len (x ∷ xs)) (x ∷ xs) ∷ chars_go xs (char_len (x ∷ xs) - 1)

-- `is_ident_byte(ch as u8)`: the character's low 8 bits are a name byte
abbrev pub name_low : List ℕ → Bool
name_low c = is_name (point c % 256)

-- `ch.is_ascii_digit()`
abbrev pub digit_char : List ℕ → Bool
digit_char c = within (code "0") (code "9") (point c)

-- ASCII digits, or nothing
abbrev pub digits : List ℕ → Bool
digits [] = true
digits (d ∷ ds) = within (code "0") (code "9") d && digits ds

-- no word: nothing, or an `r` with digits or none
abbrev pub no_word : List ℕ → Bool
no_word cur = is_empty cur || (prefixed (ascii "r") cur && digits (drop 1 cur))

-- a word that has ended, where it is one
unfoldable pub flush_word : List ℕ → List (List ℕ)
flush_word cur = cond (no_word cur) [] (cur ∷ [])

-- the character c goes on with the word so far, or begins one where there is none
abbrev pub joins : List ℕ → Bool → Bool
joins c none = name_low c && (not (digit_char c) || not none)

-- the words of characters; `cur` is the word so far
unfoldable pub words_go : List (List ℕ) → List ℕ → List (List ℕ)
unfolding flush_word
words_go [] cur = flush_word cur
words_go (c ∷ cs) cur =
    let more = words_go cs (cur ++ c) in
    let ends = flush_word cur ++ words_go cs [] in
    cond (joins c (is_empty cur)) more ends

-- the words of a cleaned text
unfoldable pub words_in : List ℕ → List (List ℕ)
unfolding chars_go words_go
words_in t = words_go (chars_go t 0) []
