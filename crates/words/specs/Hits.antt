-- Searching by text, as `replace_reg`, `occurrence_context`, `count_ident` and `mentions_ident` do. Assumes nothing.
use Rattle.std.specs.Prelude.{ℕ, zero, suc, ◌+◌, ◌-◌, Bool, false, cond, not, ◌&&◌, ◌||◌, List, [], ◌∷◌, ◌++◌, length, take, drop, get_or}
use Prim.Native.Char.{code}
use Rattle.lines.specs.Ascii.{ascii}
use Rattle.lines.specs.Lf.{prefixed, suffixed, ends_in}
use Rattle.text.specs.Class.{is_name}
use Rattle.text.specs.Trim.{trim_start, trim_end}
use Rattle.names.specs.Names.{is_digit, reg_text}
use Rattle.std.specs.declared.option.Option.{Option}
use Rattle.text.specs.declared.Span.{Span}
use Rattle.std.specs.declared.option.Option.TheVariants.{Some, None}

-- a find of p at the place i is a hit where no name byte stands before it (b) or after it
abbrev pub hit_here : List ℕ → List ℕ → ℕ → Bool → List ℕ
hit_here p l i b = cond (b || is_name (get_or l (length p) 0)) [] (i ∷ [])

-- the places of the hits of p, left to right without overlap: i is the place that the search has come to, k bytes of the last find
-- are still to pass, and b says whether a name byte stands before
unfoldable pub hits_go : List ℕ → List ℕ → ℕ → ℕ → Bool → List ℕ
hits_go [] p k i b = []
hits_go (x ∷ xs) p (suc k) i b = hits_go xs p k (suc i) (is_name x)
hits_go (x ∷ xs) p zero i b =
    let found = hit_here p (x ∷ xs) i b ++ hits_go xs p (length p - 1) (suc i) (is_name x) in
    let on = hits_go xs p 0 (suc i) (is_name x) in
    cond (prefixed p (x ∷ xs)) found on

-- the places of the hits of p in a text
unfoldable pub hits : List ℕ → List ℕ → List ℕ
unfolding hits_go
hits p l = hits_go l p 0 0 false

-- the one hit, where there is exactly one; n is the length of what was looked for
unfoldable pub one_hit : ℕ → List ℕ → Option Span
one_hit n [] = None
one_hit n (i ∷ []) = Some (record { from = i; to = i + n })
one_hit n (i ∷ j ∷ is) = None

-- the one place at which `r{v}` stands
unfoldable pub reg_hit : ℕ → List ℕ → Option Span
unfolding one_hit hits
reg_hit v l = one_hit (length (reg_text v)) (hits (reg_text v) l)

-- ---- `occurrence_context`

-- `new`
abbrev pub new_word : List ℕ
new_word = ascii "new"

-- what stands before the hit ends in `new`
unfoldable pub after_new : ℕ → List ℕ → Bool
after_new from l = suffixed new_word (trim_end (take from l))

-- a text begins as what follows a target: `++`, `--`, or `=` that is no `==`
abbrev pub target_by : List ℕ → Bool
target_by a =
    prefixed (ascii "++") a || (prefixed (ascii "--") a || (prefixed (ascii "=") a && not (prefixed (ascii "==") a)))

-- what follows the hit makes it a target
unfoldable pub as_target : ℕ → List ℕ → Bool
as_target to l = target_by (trim_start (drop to l))

-- ---- `replace_reg`

-- the replacement would join `-` to `-` or `+` to `+`
unfoldable pub glue_left : List ℕ → List ℕ → Bool
glue_left before rep =
    (ends_in (code "-") before && prefixed (ascii "-") rep) || (ends_in (code "+") before && prefixed (ascii "+") rep)

-- its last character is a digit, and a `.` follows
unfoldable pub glue_right : List ℕ → List ℕ → Bool
glue_right rep after = is_digit (get_or rep (length rep - 1) 0) && prefixed (ascii ".") after

-- the replacement, in parentheses where it would be glued
unfoldable pub glued : List ℕ → List ℕ → List ℕ → List ℕ
unfolding glue_left glue_right
glued before rep after = cond (glue_left before rep || glue_right rep after) (code "(" ∷ rep ++ ascii ")") rep

-- a line with the replacement in the place of the hit
unfoldable pub replaced_at : ℕ → ℕ → List ℕ → List ℕ → List ℕ
unfolding glued
replaced_at from to l rep = take from l ++ glued (take from l) rep (drop to l) ++ drop to l

-- the line that `replace_reg` makes, or none
abbrev pub replace_by : Option Span → List ℕ → List ℕ → List (List ℕ)
replace_by None l rep = []
replace_by (Some w) l rep = replaced_at w.from w.to l rep ∷ []

-- `replace_reg`: the line with register v replaced, where it stands exactly once
unfoldable pub replace_reg : ℕ → List ℕ → List ℕ → List (List ℕ)
unfolding reg_hit replaced_at
replace_reg v l rep = replace_by (reg_hit v l) l rep
