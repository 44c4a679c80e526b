-- Joined mode: a line takes in what the line above left open, a block comment or a template, and hands on what it leaves open itself. Assumes nothing.
use Rattle.std.specs.Prelude.{ℕ, zero, suc, ◌-◌, Bool, true, false, cond, not, ◌&&◌, List, [], ◌∷◌, ◌++◌, drop, eqb}
use Prim.Native.Char.{code}
use Rattle.lines.specs.Ascii.{ascii}
use Rattle.lines.specs.Lf.{prefixed, holds}
use Rattle.lexical.specs.declared.Token.{Token}
use Rattle.lexical.specs.declared.Open.{Open}
use Rattle.lexical.specs.declared.Open.TheVariants.{Nothing, Comment, Template}
use Rattle.lexical.specs.Lex.{quote_len, quote_shut, comment_len, token_of, last_of, leaves}

-- ---- a line, by what was left open above it

-- how many bytes at its front belong to that: with what closes it, or all where nothing does
unfoldable pub taken : Open → List ℕ → ℕ
taken Nothing l = 0
taken Comment l = comment_len l
taken Template l = quote_len l (code "`")

-- whether it is closed in the line
unfoldable pub shut_in : Open → List ℕ → Bool
shut_in Nothing l = true
shut_in Comment l = holds (ascii "*/") l
shut_in Template l = quote_shut l (code "`")

-- the rest of the line: it is cleaned as a line of its own
abbrev pub rest_at : Open → List ℕ → List ℕ
rest_at o l = drop (taken o l) l

-- ---- what a line leaves open

-- a block comment begins the text x ∷ xs, and is not closed in it
unfoldable pub opens_comment : ℕ → List ℕ → Bool
opens_comment x xs = eqb x (code "/") && (prefixed (ascii "*") xs && not (holds (ascii "*/") (drop 1 xs)))

-- a template does
unfoldable pub opens_template : ℕ → List ℕ → Bool
opens_template x xs = eqb x (code "`") && not (quote_shut xs (code "`"))

-- what a text leaves open that begins with nothing open, token by token as in `lex_go`
unfoldable pub open_go : List ℕ → ℕ → List ℕ → Open
unfolding opens_comment opens_template
open_go [] k out = Nothing
open_go (x ∷ xs) (suc k) out = open_go xs k out
open_go (x ∷ xs) zero out =
    let t : Token = token_of (last_of out) x xs in
    let on = open_go xs (t.size - 1) (out ++ leaves t.kind x) in
    cond (opens_comment x xs) Comment (cond (opens_template x xs) Template on)

unfoldable pub open_of : List ℕ → Open
unfolding open_go
open_of l = open_go l 0 []

-- what a line hands on
unfoldable pub open_below : Open → List ℕ → Open
unfolding shut_in taken open_of
open_below o l = cond (shut_in o l) (open_of (rest_at o l)) o

-- ---- lines

-- the rests of lines, where o is left open above the first
unfoldable pub rests_from : Open → List (List ℕ) → List (List ℕ)
unfolding taken open_below
rests_from o [] = []
rests_from o (l ∷ ls) = rest_at o l ∷ rests_from (open_below o l) ls

-- what lines hand on
unfoldable pub open_after : Open → List (List ℕ) → Open
unfolding open_below
open_after o [] = o
open_after o (l ∷ ls) = open_after (open_below o l) ls

-- what is cleaned of lines: the rests of joined ones, or the lines as they stand
abbrev pub rests_in : Bool → List (List ℕ) → List (List ℕ)
rests_in true ls = rests_from Nothing ls
rests_in false ls = ls
