-- Lines and what cleaning leaves of them, as one table with one statement. Assumes nothing.
use Prim.Native.Nat.{ℕ}
use mathlib.Core.Path.{◌≡◌, refl}
use mathlib.Core.Bool.{true}
use mathlib.Core.List.{List, [], ◌∷◌, map}
use Rattle.lines.specs.Ascii.{ascii}
use Rattle.lines.specs.Lf.{prefixed, same, holds, all}
use Rattle.text.specs.White.{is_white}
use Rattle.text.specs.Utf8Form.{seq_len}
use Rattle.text.specs.Trim.{white_char, white_tail, end_white, to_of}
use Rattle.lexical.specs.declared.Open.TheVariants.{Nothing, Template}
use Rattle.lexical.specs.Lex.{quote_len, quote_shut, pattern_len, comment_len, last_of, token_of, lex_go, strip_lexical}
use Rattle.lexical.specs.Joined.{taken, shut_in, opens_comment, opens_template, open_go, open_of, open_below, rests_from, open_after, rests_in}

-- `a = "}" ; // {` leaves `a = S ; `
-- `/*c*/` leaves ``
-- `/*/ x */y` leaves `y`
-- `a /b/ c` leaves `a /b/ c`
-- `= /[/]/ x` leaves `= S x`
-- `'\'' x` leaves `S x`
-- `x = "ab` leaves `x = S`
-- `x = 1 / 2` leaves `x = 1 / 2`
unfoldable pub table : List (List ℕ × List ℕ)
table =
    (97 ∷ 32 ∷ 61 ∷ 32 ∷ 34 ∷ 125 ∷ 34 ∷ 32 ∷ 59 ∷ 32 ∷ 47 ∷ 47 ∷ 32 ∷ 123 ∷ [], 97 ∷ 32 ∷ 61 ∷ 32 ∷ 83 ∷ 32 ∷ 59 ∷ 32 ∷ [])
    ∷ (47 ∷ 42 ∷ 99 ∷ 42 ∷ 47 ∷ [], [])
    ∷ (47 ∷ 42 ∷ 47 ∷ 32 ∷ 120 ∷ 32 ∷ 42 ∷ 47 ∷ 121 ∷ [], 121 ∷ [])
    ∷ (97 ∷ 32 ∷ 47 ∷ 98 ∷ 47 ∷ 32 ∷ 99 ∷ [], 97 ∷ 32 ∷ 47 ∷ 98 ∷ 47 ∷ 32 ∷ 99 ∷ [])
    ∷ (61 ∷ 32 ∷ 47 ∷ 91 ∷ 47 ∷ 93 ∷ 47 ∷ 32 ∷ 120 ∷ [], 61 ∷ 32 ∷ 83 ∷ 32 ∷ 120 ∷ [])
    ∷ (39 ∷ 92 ∷ 39 ∷ 39 ∷ 32 ∷ 120 ∷ [], 83 ∷ 32 ∷ 120 ∷ [])
    ∷ (120 ∷ 32 ∷ 61 ∷ 32 ∷ 34 ∷ 97 ∷ 98 ∷ [], 120 ∷ 32 ∷ 61 ∷ 32 ∷ 83 ∷ [])
    ∷ (120 ∷ 32 ∷ 61 ∷ 32 ∷ 49 ∷ 32 ∷ 47 ∷ 32 ∷ 50 ∷ [], 120 ∷ 32 ∷ 61 ∷ 32 ∷ 49 ∷ 32 ∷ 47 ∷ 32 ∷ 50 ∷ [])
    ∷ []

pub strips : all (λ (v : List ℕ × List ℕ). same (strip_lexical v.0) v.1) table ≡ true
unfolding table same strip_lexical lex_go token_of quote_len pattern_len comment_len last_of prefixed to_of end_white white_tail white_char seq_len is_white
strips = refl

-- ---- joined lines: a template of three lines with braces in it, comments over lines, an escaped backtick, `/*/`

-- each line, and what cleaning leaves of it
unfoldable pub listing : List (List ℕ × List ℕ)
listing =
    (ascii "r1 = `a {", ascii "r1 = S")
    ∷ (ascii "  b } ${c} {", ascii "")
    ∷ (ascii "`; r2 = {", ascii "; r2 = {")
    ∷ (ascii "x /* } {", ascii "x ")
    ∷ (ascii "} */ }", ascii " }")
    ∷ (ascii "\"/*\" `", ascii "S S")
    ∷ (ascii " \\` {", ascii "")
    ∷ (ascii "` /* `", ascii " ")
    ∷ (ascii "*/ }", ascii " }")
    ∷ (ascii "/*/", ascii "")
    ∷ (ascii "/", ascii "")
    ∷ (ascii "*/ `", ascii " S")
    ∷ []

pub joins : map (λ (l : List ℕ). strip_lexical l) (rests_in true (map (λ (v : List ℕ × List ℕ). v.0) listing)) ≡ map (λ (v : List ℕ × List ℕ). v.1) listing
unfolding listing holds prefixed quote_shut taken shut_in opens_comment opens_template open_go open_of open_below rests_from strip_lexical lex_go token_of quote_len pattern_len comment_len last_of to_of end_white white_tail white_char seq_len is_white
joins = refl

-- the last line leaves a template open
pub ends_open : open_after Nothing (map (λ (v : List ℕ × List ℕ). v.0) listing) ≡ Template
unfolding listing holds prefixed quote_shut taken shut_in opens_comment opens_template open_go open_of open_below open_after lex_go token_of quote_len pattern_len comment_len last_of to_of end_white white_tail white_char seq_len is_white
ends_open = refl
