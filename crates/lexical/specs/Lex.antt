-- Cleaning a line: `strip_lexical`. Comments go, and a literal leaves `S`. Assumes nothing.
-- The Rust goes over characters. A byte of a character of several bytes is no quote, no `\`, no `/` and no bracket, so bytes do as well.
use Rattle.std.specs.Prelude.{ℕ, zero, suc, ◌+◌, ◌-◌, Bool, true, false, cond, not, ◌&&◌, ◌||◌, List, [], ◌∷◌, ◌++◌, length, drop, get_or, eqb}
use Prim.Native.Char.{code}
use Rattle.lines.specs.Ascii.{ascii}
use Rattle.lines.specs.Lf.{prefixed}
use Rattle.text.specs.Class.{is_quote, opens_pattern}
use Rattle.text.specs.Trim.{to_of}
use Rattle.lexical.specs.declared.Kind.{Kind}
use Rattle.lexical.specs.declared.Kind.TheVariants.{Kept, Literal, Gone}
use Rattle.lexical.specs.declared.Token.{Token}

-- ---- how far a literal or a comment goes, counted after what opened it: with what closes it, or to the end where nothing does

-- a quote q: `\` takes the next character along
unfoldable pub quote_len : List ℕ → ℕ → ℕ
quote_len [] q = 0
quote_len (x ∷ []) q = 1
quote_len (x ∷ y ∷ l) q =
    let escaped = suc (suc (quote_len l q)) in
    let on = suc (quote_len (y ∷ l) q) in
    cond (eqb x (code "\\")) escaped (cond (eqb x q) 1 on)

-- whether that quote is closed at all
unfoldable pub quote_shut : List ℕ → ℕ → Bool
quote_shut [] q = false
quote_shut (x ∷ []) q = not (eqb x (code "\\")) && eqb x q
quote_shut (x ∷ y ∷ l) q =
    let escaped = quote_shut l q in
    let on = quote_shut (y ∷ l) q in
    cond (eqb x (code "\\")) escaped (cond (eqb x q) true on)

-- a pattern: a `/` inside a class `[..]` does not close it
unfoldable pub pattern_len : List ℕ → Bool → ℕ
pattern_len [] inside = 0
pattern_len (x ∷ []) inside = 1
pattern_len (x ∷ y ∷ l) inside =
    let escaped = suc (suc (pattern_len l inside)) in
    let opened = suc (pattern_len (y ∷ l) true) in
    let closed = suc (pattern_len (y ∷ l) false) in
    let on = suc (pattern_len (y ∷ l) inside) in
    cond (eqb x (code "\\")) escaped (cond (eqb x (code "[")) opened (cond (eqb x (code "]")) closed (cond (eqb x (code "/") && not inside) 1 on)))

-- a block comment, after its `/*`
unfoldable pub comment_len : List ℕ → ℕ
comment_len [] = 0
comment_len (x ∷ []) = 1
comment_len (x ∷ y ∷ l) =
    let on = suc (comment_len (y ∷ l)) in
    cond (eqb x (code "*") && eqb y (code "/")) 2 on

-- ---- one token

-- the last character of a text without the white space at its end, or 256 where there is none; of a character of several bytes its last
unfoldable pub last_of : List ℕ → ℕ
last_of out = cond (eqb (to_of out) 0) 256 (get_or out (to_of out - 1) 0)

-- `out.trim_end().chars().last().map(regex_prev).unwrap_or(true)`: after this last character a `/` starts a pattern
abbrev pub pattern_after : ℕ → Bool
pattern_after last = eqb last 256 || opens_pattern last

-- a token of n bytes
abbrev pub token : ℕ → Kind → Token
token n k = record { size = n; kind = k }

-- the token that x begins, before xs: the tests in the order of the Rust
unfoldable pub token_of : ℕ → ℕ → List ℕ → Token
unfolding quote_len pattern_len comment_len
token_of last x xs =
    cond (eqb x (code "/") && prefixed (ascii "/") xs) (token (suc (length xs)) Gone)
    (cond (eqb x (code "/") && prefixed (ascii "*") xs) (token (2 + comment_len (drop 1 xs)) Gone)
    (cond (is_quote x) (token (suc (quote_len xs x)) Literal)
    (cond (eqb x (code "/") && pattern_after last) (token (suc (pattern_len xs false)) Literal)
    (token 1 Kept))))

-- what a token that x begins leaves
abbrev pub leaves : Kind → ℕ → List ℕ
leaves Kept x = x ∷ []
leaves Literal x = ascii "S"
leaves Gone x = []

-- ---- the whole line

-- the text left in the end: `out` is left so far, and k bytes of a token are still to pass
unfoldable pub lex_go : List ℕ → ℕ → List ℕ → List ℕ
unfolding last_of token_of
lex_go [] k out = out
lex_go (x ∷ xs) (suc k) out = lex_go xs k out
lex_go (x ∷ xs) zero out =
    let t : Token = token_of (last_of out) x xs in
    lex_go xs (t.size - 1) (out ++ leaves t.kind x)

-- `strip_lexical`
unfoldable pub strip_lexical : List ℕ → List ℕ
unfolding lex_go
strip_lexical l = lex_go l 0 []
