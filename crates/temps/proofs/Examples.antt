-- A listing that holds each case of `prune_dead_temps`, as one table. Assumes nothing.
use Rattle.std.proofs.Common.{◌≡◌, ℕ, ◌+◌, ◌^◌, Bool, true, false, List, [], ◌∷◌, map, refl}
use Rattle.lines.specs.Ascii.{ascii}
use Rattle.lines.specs.Lf.{up_to, prefixed, same, cut_on, parts_of}
use Rattle.text.specs.White.{is_white}
use Rattle.text.specs.Utf8Form.{seq_len}
use Rattle.text.specs.Trim.{white_char, white_head, white_tail, lead, from_of, end_white, to_of, trim_of}
use Rattle.names.specs.Names.{numbered, read_number, reg_of, is_temp, is_ident}
use Rattle.names.specs.Inner.Names.{zeros}
use Rattle.std.specs.declared.option.Option.TheVariants.{Some, None}
use Rattle.words.specs.Hits.{hits_go, hits}
use Rattle.expr.specs.Fix.{deep, fix}
use Rattle.lexical.specs.Lex.{quote_len, quote_shut}
use Rattle.expr.specs.Comments.{strip, strip_comments}
use Rattle.expr.specs.Quotes.{cut_go, strip_quoted, is_closed}
use Rattle.expr.specs.Pure.{space_start, space_end, space_trim, wrapped, shape_of, openings, closings, elements, pure_by, judge, purity_in}
use Rattle.reading.specs.Reading.{plain, reading_of}
use Rattle.reading.specs.Assign.{is_assign, left_of, right_of}
use Rattle.temps.specs.Temps.{any_piece, declares, temp_reads, declared_in, temp_read}
use Rattle.temps.specs.Inner.Scratch.{temp_goes}
use Rattle.temps.specs.Inner.Table.{key_of}

-- a line, and whether it goes
pub record Row : Type 0 where
  pub line : List ℕ
  pub goes : Bool

abbrev pub row : List ℕ → Bool → Row
row l b = record { line = l; goes = b }

-- `let t0, t7;`, `  let t1;`; `t0 = r1;` goes, as `var x = t0;` is no read; `t7 = f();` has an effect; `t07` and `t9` are not declared;
-- `t1 = t1;` reads t1; `  t7=[a, 2] ;` goes
unfoldable pub rows : List Row
rows =
    row (108 ∷ 101 ∷ 116 ∷ 32 ∷ 116 ∷ 48 ∷ 44 ∷ 32 ∷ 116 ∷ 55 ∷ 59 ∷ []) false
    ∷ row (32 ∷ 32 ∷ 108 ∷ 101 ∷ 116 ∷ 32 ∷ 116 ∷ 49 ∷ 59 ∷ []) false
    ∷ row (116 ∷ 48 ∷ 32 ∷ 61 ∷ 32 ∷ 114 ∷ 49 ∷ 59 ∷ []) true
    ∷ row (116 ∷ 55 ∷ 32 ∷ 61 ∷ 32 ∷ 102 ∷ 40 ∷ 41 ∷ 59 ∷ []) false
    ∷ row (116 ∷ 48 ∷ 55 ∷ 32 ∷ 61 ∷ 32 ∷ 49 ∷ 59 ∷ []) false
    ∷ row (118 ∷ 97 ∷ 114 ∷ 32 ∷ 120 ∷ 32 ∷ 61 ∷ 32 ∷ 116 ∷ 48 ∷ 59 ∷ []) false
    ∷ row (116 ∷ 49 ∷ 32 ∷ 61 ∷ 32 ∷ 116 ∷ 49 ∷ 59 ∷ []) false
    ∷ row (116 ∷ 57 ∷ 32 ∷ 61 ∷ 32 ∷ 49 ∷ 59 ∷ []) false
    ∷ row (32 ∷ 32 ∷ 116 ∷ 55 ∷ 61 ∷ 91 ∷ 97 ∷ 44 ∷ 32 ∷ 50 ∷ 93 ∷ 32 ∷ 59 ∷ []) true
    ∷ []

-- by the definitions the lines go that the table says
pub examples : map (temp_goes plain (map (λ (r : Row). r.line) rows)) (map (λ (r : Row). r.line) rows) ≡ map (λ (r : Row). r.goes) rows
unfolding rows up_to prefixed same cut_on parts_of is_white seq_len white_char white_head white_tail lead from_of end_white to_of trim_of numbered read_number reg_of is_temp is_ident hits_go hits deep fix strip strip_comments space_start space_end space_trim wrapped shape_of openings closings elements pure_by judge purity_in is_assign left_of right_of any_piece declares temp_reads declared_in temp_read temp_goes
examples = refl

-- by mode 0 and by mode 1: a value between two quotes is a string in plain mode, and in strict mode only where it is one literal; a comment mark
-- inside quotes is one in plain mode alone
unfoldable pub quoted : List (List ℕ)
quoted = ascii "let t0, t1;" ∷ ascii "t0 = 'a' + f() + 'b';" ∷ ascii "t1 = 'http://x';" ∷ []

pub by-modes : map (λ (k : ℕ). map (temp_goes (reading_of k) quoted) quoted) (0 ∷ 1 ∷ []) ≡ (false ∷ true ∷ false ∷ []) ∷ (false ∷ false ∷ true ∷ []) ∷ []
unfolding quoted up_to prefixed same cut_on parts_of is_white seq_len white_char white_head white_tail lead from_of end_white to_of trim_of numbered read_number reg_of is_temp is_ident hits_go hits deep fix strip strip_comments quote_len quote_shut cut_go strip_quoted is_closed space_start space_end space_trim wrapped shape_of openings closings elements pure_by judge purity_in is_assign left_of right_of any_piece declares temp_reads declared_in temp_read temp_goes
by-modes = refl

-- the key of `t7` is its number, `t07` and `t007` have others, and `t` and `r7` have none
pub keys : map key_of (ascii "t7" ∷ ascii "t07" ∷ ascii "t007" ∷ ascii "t" ∷ ascii "r7" ∷ []) ≡ Some 7 ∷ Some (2 ^ 63 + 2 ^ 57 + 640) ∷ Some (2 ^ 63 + 2 ^ 58 + 1273) ∷ None ∷ None ∷ []
unfolding key_of prefixed zeros numbered read_number
keys = refl
