-- The listings of the rules that are to be proved: one table over the definitions, and one statement. Assumes nothing.
use Prim.Native.Nat.{ℕ}
use mathlib.Core.Path.{◌≡◌, refl}
use mathlib.Core.List.{List, [], ◌∷◌, map}
use Rattle.lines.specs.Lf.{up_to, prefixed, suffixed, same, cut_on, parts_of}
use Rattle.text.specs.White.{is_white}
use Rattle.text.specs.Utf8Form.{seq_len}
use Rattle.text.specs.Trim.{white_char, white_head, white_tail, lead, from_of, end_white, to_of, trim_of}
use Rattle.names.specs.Names.{numbered, read_number, decimal_by, decimal, reg_of, is_ident}
use Rattle.parse.specs.Parse.{all_regs, is_decl, store_in, parse_of, text_of}
use Rattle.expr.specs.Fix.{deep, fix}
use Rattle.expr.specs.Comments.{strip, strip_comments}
use Rattle.expr.specs.Pure.{space_start, space_end, space_trim, wrapped, shape_of, openings, closings, elements, pure_by, judge, purity_in, purity_of}
use Rattle.words.specs.Hits.{hits_go, hits, one_hit, reg_hit, glue_left, glue_right, glued, replaced_at, replace_reg}
use Rattle.lexical.specs.Lex.{quote_len, pattern_len, comment_len, last_of, token_of, lex_go, strip_lexical}
use Rattle.std.specs.declared.option.Option.{Option}
use Rattle.names.specs.declared.Register.{Register}
use Rattle.std.specs.declared.option.Option.TheVariants.{Some, None}
use Rattle.parse.specs.declared.Line.{Line}
use Rattle.parse.specs.declared.Line.TheVariants as parsed
use Rattle.expr.specs.declared.kinds.Purity.{Purity}
use Rattle.expr.specs.declared.kinds.Purity.TheVariants.{Stable, Effectful}

-- what is asked: what a line is, its expression, the register that a text names, the purity of a value, a register replaced in a line by
-- a text, a line cleaned
pub data Asked : Type 0 where
  reads : List ℕ → Asked
  value : List ℕ → Asked
  names : List ℕ → Asked
  values : List ℕ → Asked
  replaces : List ℕ → ℕ → List ℕ → Asked
  cleans : List ℕ → Asked

pub data Answer : Type 0 where
  line : Line → Answer
  register : Option Register → Answer
  purity : Purity → Answer
  text : List ℕ → Answer
  texts : List (List ℕ) → Answer

-- what the definitions answer
unfoldable pub said : Asked → Answer
said (reads l) = line (parse_of l)
said (value l) = text (text_of l (parse_of l))
said (names t) = register (reg_of t)
said (values t) = purity (purity_of t)
said (replaces l v x) = texts (replace_reg v l x)
said (cleans l) = text (strip_lexical l)

pub record Row : Type 0 where
  pub asked : Asked
  pub answer : Answer

abbrev pub row : Asked → Answer → Row
row q a = record { asked = q; answer = a }

unfoldable pub rows : List Row
rows =
    -- `let r1,;` is other
    row (reads (108 ∷ 101 ∷ 116 ∷ 32 ∷ 114 ∷ 49 ∷ 44 ∷ 59 ∷ [])) (line parsed.Other)
    -- `r0 => x;` stores r0, with the value `> x`
    ∷ row (reads (114 ∷ 48 ∷ 32 ∷ 61 ∷ 62 ∷ 32 ∷ 120 ∷ 59 ∷ [])) (line (parsed.Store (record { reg = record { 0 = 0 }; from = 4; to = 7 })))
    ∷ row (value (114 ∷ 48 ∷ 32 ∷ 61 ∷ 62 ∷ 32 ∷ 120 ∷ 59 ∷ [])) (text (62 ∷ 32 ∷ 120 ∷ []))
    -- `r1 == r2;` is other
    ∷ row (reads (114 ∷ 49 ∷ 32 ∷ 61 ∷ 61 ∷ 32 ∷ 114 ∷ 50 ∷ 59 ∷ [])) (line parsed.Other)
    -- `r18446744073709551615` is a register, the next is none
    ∷ row (names (114 ∷ 49 ∷ 56 ∷ 52 ∷ 52 ∷ 54 ∷ 55 ∷ 52 ∷ 52 ∷ 48 ∷ 55 ∷ 51 ∷ 55 ∷ 48 ∷ 57 ∷ 53 ∷ 53 ∷ 49 ∷ 54 ∷ 49 ∷ 53 ∷ [])) (register (Some (record { 0 = 18446744073709551615 })))
    ∷ row (names (114 ∷ 49 ∷ 56 ∷ 52 ∷ 52 ∷ 54 ∷ 55 ∷ 52 ∷ 52 ∷ 48 ∷ 55 ∷ 51 ∷ 55 ∷ 48 ∷ 57 ∷ 53 ∷ 53 ∷ 49 ∷ 54 ∷ 49 ∷ 54 ∷ [])) (register None)
    -- `"a" + f() + "b"` is Stable
    ∷ row (values (34 ∷ 97 ∷ 34 ∷ 32 ∷ 43 ∷ 32 ∷ 102 ∷ 40 ∷ 41 ∷ 32 ∷ 43 ∷ 32 ∷ 34 ∷ 98 ∷ 34 ∷ [])) (purity Stable)
    -- `"http://x"` is Effectful
    ∷ row (values (34 ∷ 104 ∷ 116 ∷ 116 ∷ 112 ∷ 58 ∷ 47 ∷ 47 ∷ 120 ∷ 34 ∷ [])) (purity Effectful)
    -- `[1,]` is Stable
    ∷ row (values (91 ∷ 49 ∷ 44 ∷ 93 ∷ [])) (purity Stable)
    -- `[,1]` is Effectful
    ∷ row (values (91 ∷ 44 ∷ 49 ∷ 93 ∷ [])) (purity Effectful)
    -- `0x10` is Stable
    ∷ row (values (48 ∷ 120 ∷ 49 ∷ 48 ∷ [])) (purity Stable)
    -- `0xff` is Effectful
    ∷ row (values (48 ∷ 120 ∷ 102 ∷ 102 ∷ [])) (purity Effectful)
    -- `use(r007)`, replace 7: no
    ∷ row (replaces (117 ∷ 115 ∷ 101 ∷ 40 ∷ 114 ∷ 48 ∷ 48 ∷ 55 ∷ 41 ∷ []) 7 (120 ∷ [])) (texts [])
    -- `x = -r1;`, r1 by `-2`: `x = -(-2);`
    ∷ row (replaces (120 ∷ 32 ∷ 61 ∷ 32 ∷ 45 ∷ 114 ∷ 49 ∷ 59 ∷ []) 1 (45 ∷ 50 ∷ [])) (texts ((120 ∷ 32 ∷ 61 ∷ 32 ∷ 45 ∷ 40 ∷ 45 ∷ 50 ∷ 41 ∷ 59 ∷ []) ∷ []))
    -- `r1.x`, r1 by `5`: `(5).x`
    ∷ row (replaces (114 ∷ 49 ∷ 46 ∷ 120 ∷ []) 1 (53 ∷ [])) (texts ((40 ∷ 53 ∷ 41 ∷ 46 ∷ 120 ∷ []) ∷ []))
    -- `a = "}" ; // {` is cleaned to `a = S ; `, with the last space
    ∷ row (cleans (97 ∷ 32 ∷ 61 ∷ 32 ∷ 34 ∷ 125 ∷ 34 ∷ 32 ∷ 59 ∷ 32 ∷ 47 ∷ 47 ∷ 32 ∷ 123 ∷ [])) (text (97 ∷ 32 ∷ 61 ∷ 32 ∷ 83 ∷ 32 ∷ 59 ∷ 32 ∷ []))
    ∷ []

-- the definitions answer as the table says
pub listed : map (λ (r : Row). said r.asked) rows ≡ map (λ (r : Row). r.answer) rows
unfolding rows said up_to prefixed suffixed same cut_on parts_of is_white seq_len white_char white_head white_tail lead from_of end_white to_of trim_of numbered read_number decimal_by decimal reg_of is_ident all_regs is_decl store_in parse_of text_of deep fix strip strip_comments space_start space_end space_trim wrapped shape_of openings closings elements pure_by judge purity_in hits_go hits one_hit reg_hit glue_left glue_right glued replaced_at replace_reg quote_len pattern_len comment_len last_of token_of lex_go strip_lexical
listed = refl
