-- A cut that is not behind an LF gives other lines, and a tail to which the law of a cut applies. Assumes nothing.
use mathlib.Core.Path.{◌≡◌, refl}
use mathlib.Core.Bool.{true}
use Prim.Native.Nat.{ℕ}
use mathlib.Core.List.{List, [], ◌∷◌, ◌++◌}
use Rattle.lines.specs.Lf.{up_to, prefixed, same, cut_on, lines_of}
use Rattle.lines.specs.Steps.{drop_cr, split_lines}
use Rattle.lexical.specs.Lex.{quote_len, pattern_len, comment_len, last_of, token_of, lex_go, strip_lexical}
use Rattle.lexical.specs.Inner.Lex.{token_at, tail_of, pushed, grown, clean_step}
use Rattle.place.specs.Region.{is_header}
use Rattle.place.specs.Inner.Region.{headed}
use Rattle.place.specs.Blocks.{brace_of, push, count, top, cleaned}
use Rattle.place.specs.Inner.Blocks.{may_at, depth_at, depth_after, own_line, own_go, own}

-- a, CR | LF, b: two lines; cut between, three, and the CR stays
pub whole-lines : split_lines ((97 ∷ 13 ∷ []) ++ (10 ∷ 98 ∷ [])) ≡ (97 ∷ []) ∷ (98 ∷ []) ∷ []
unfolding split_lines drop_cr lines_of prefixed cut_on
whole-lines = refl

pub cut-lines : split_lines (97 ∷ 13 ∷ []) ++ split_lines (10 ∷ 98 ∷ []) ≡ (97 ∷ 13 ∷ []) ∷ [] ∷ (98 ∷ []) ∷ []
unfolding split_lines drop_cr lines_of prefixed cut_on
cut-lines = refl

-- `let r1;` CR LF `{` LF `}`
abbrev tail : List ℕ
tail = 108 ∷ 101 ∷ 116 ∷ 32 ∷ 114 ∷ 49 ∷ 59 ∷ 13 ∷ 10 ∷ 123 ∷ 10 ∷ 125 ∷ []

pub tail-headed : headed (split_lines tail) ≡ true
unfolding split_lines drop_cr lines_of prefixed cut_on is_header headed
tail-headed = refl

pub tail-own : own (cleaned (split_lines tail)) ≡ true
unfolding split_lines drop_cr lines_of prefixed cut_on quote_len pattern_len comment_len last_of token_of token_at lex_go strip_lexical tail_of pushed grown clean_step brace_of push count top cleaned may_at depth_at depth_after own_line own_go own up_to same
tail-own = refl
