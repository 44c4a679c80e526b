-- Strict mode: comments are cut outside quotes alone, and a quoted text is one literal. Assumes nothing.
use Rattle.std.specs.Prelude.{ℕ, zero, suc, Bool, true, false, cond, ◌&&◌, ◌||◌, List, [], ◌∷◌, eqb, length, drop, get_or}
use Prim.Native.Char.{code}
use Rattle.lines.specs.Ascii.{ascii}
use Rattle.lines.specs.Lf.{prefixed, among}
use Rattle.text.specs.Class.{is_quote}
use Rattle.lexical.specs.Lex.{quote_len, quote_shut}

-- what is left of a text that begins inside a comment `/* .. */`, or outside; k bytes of a literal are still to be copied.
-- A literal in `"`, `'` or backticks stays whole, with what closes it, or to the end where nothing does; comments go as in `strip`
unfoldable pub cut_go : List ℕ → ℕ → Bool → List ℕ
cut_go [] k inside = []
cut_go (a ∷ s) (suc k) inside = a ∷ cut_go s k inside
cut_go (a ∷ []) zero false = a ∷ []
cut_go (a ∷ []) zero true = []
cut_go (a ∷ b ∷ s) zero false =
    let literal = a ∷ cut_go (b ∷ s) (quote_len (b ∷ s) a) false in
    let opened = cut_go s 0 true in
    let copied = a ∷ cut_go (b ∷ s) 0 false in
    cond (is_quote a) literal
    (cond (prefixed (ascii "/*") (a ∷ b ∷ s)) opened (cond (prefixed (ascii "//") (a ∷ b ∷ s)) [] copied))
cut_go (a ∷ b ∷ s) zero true =
    let closed : List ℕ = code " " ∷ cut_go s 0 false in
    let skipped = cut_go (b ∷ s) 0 true in
    cond (prefixed (ascii "*/") (a ∷ b ∷ s)) closed skipped

-- a text without the comments that stand outside quotes
unfoldable pub strip_quoted : List ℕ → List ℕ
unfolding cut_go
strip_quoted s = cut_go s 0 false

-- the quote q that begins a text is closed, escapes counted, by its last byte
abbrev pub closed_by : ℕ → List ℕ → Bool
closed_by q t = eqb (suc (quote_len (drop 1 t) q)) (length t) && quote_shut (drop 1 t) q

-- a `"` or a `'` begins a text and is closed by its last byte
unfoldable pub is_closed : List ℕ → Bool
is_closed t = among (ascii "\"'") (get_or t 0 0) && closed_by (get_or t 0 0) t

-- ---- calls

-- a `(` stands outside the literals of a text, of which the first k bytes belong to one
unfoldable pub call_go : List ℕ → ℕ → Bool
call_go [] k = false
call_go (a ∷ s) (suc k) = call_go s k
call_go (a ∷ s) zero =
    let behind = call_go s (quote_len s a) in
    let on = call_go s 0 in
    cond (is_quote a) behind (eqb a (code "(") || on)

-- a value holds a call: a `(` outside comments and quotes
unfoldable pub holds_call : List ℕ → Bool
unfolding call_go strip_quoted
holds_call v = call_go (strip_quoted v) 0
