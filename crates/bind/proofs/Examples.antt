-- bind_declarators on some listings, as one table. What is expected is the original's answer. Assumes nothing.
use Prim.Native.Nat.{ℕ}
use mathlib.Core.Path.{◌≡◌, refl}
use mathlib.Core.Bool.{false}
use mathlib.Core.List.{List, [], ◌∷◌, ◌++◌, map}
use lib.ListN.{length}
use Rattle.lines.specs.Lf.{up_to, count_of, prefixed, suffixed, same, holds, cut_on, lines_of, parts_of, unlines}
use Rattle.lines.specs.Inner.Lf.{lacks, no_lf}
use Rattle.lines.specs.Acts.{act, apply}
use Rattle.text.specs.White.{is_white}
use Rattle.text.specs.Utf8Form.{seq_len, scan, utf8_of}
use Rattle.text.specs.Trim.{white_char, white_head, white_tail, lead, from_of, end_white, to_of, trim_of}
use Rattle.names.specs.Names.{numbered, read_number, decimal_by, decimal, reg_of, phi_of, is_temp, is_ident}
use Rattle.names.specs.Inner.Names.{zeros, number_after}
use Rattle.parse.specs.Parse.{all_regs, is_decl, store_in, parse_of, text_of}
use Rattle.words.specs.Runs.{runs_go, runs, count_by}
use Rattle.words.specs.Inner.Runs.{up_by, walk_runs, run_hits}
use Rattle.words.specs.Hits.{hits_go, hits, one_hit, reg_hit, after_new, as_target, glue_left, glue_right, glued, replaced_at, replace_reg}
use Rattle.lexical.specs.Lex.{quote_len, pattern_len, comment_len, last_of, token_of, lex_go, strip_lexical}
use Rattle.lexical.specs.Inner.Lex.{token_at, tail_of, pushed, grown, clean_step}
use Rattle.place.specs.Region.{is_header, until_header, region, region_at}
use Rattle.place.specs.Inner.Region.{headed, regions_go, regions, region_next, up_header}
use Rattle.place.specs.Blocks.{brace_of, push, count, top, stack_after, next_after, blocks_go, blocks, cleaned}
use Rattle.place.specs.Inner.Blocks.{may_at, depth_at, depth_after, own_line, own_go, own}
use Rattle.place.specs.Starts.{starts_after, starts_above, starts_go}
use Rattle.place.specs.Inner.Starts.{starts_by_last}
use Rattle.reading.specs.Assign.{is_assign, left_of, right_of}
use Rattle.reading.specs.Inner.Assign.{assign_of}
use Rattle.reading.specs.Uses.{line_reads, line_stores, line_uses, used_in}
use Rattle.decls.specs.Decls.{commas, decl_act, keep_names, act_of, acts_go, prune_decls_acts, prune_decls}
use Rattle.bind.specs.Bind.{block_lines_of, block_lines, lines_within, until_head, piece_count, decl_count, store_count, first_use, bound, any_bound, unbound, mark, mark_all, pieces_of, bind_act, bind_go, bind_declarators_acts, bind_declarators}
use Rattle.reading.specs.Reading.{plain}

-- the lines of a listing, and what they become
pub record Row : Type 0 where
  pub lines : List (List ℕ)
  pub result : List (List ℕ)

abbrev pub row : List (List ℕ) → List (List ℕ) → Row
row ls rs = record { lines = ls; result = rs }

-- `var x;`; `  let r0;`; `}`; `  r0 = 1;`
--   gives `var x;`; `}`; `  let r0 = 1;`
-- `if (x) {`; `var x;`; `  let r0;`; `}`; `  r0 = 1;`
--   gives `if (x) {`; `var x;`; `  let r0;`; `}`; `  r0 = 1;`
-- `let r1, r2;`; `  r1 = r1 + 1;`; `  use(r2);`
--   gives `let r2;`; `  let r1 = r1 + 1;`; `  use(r2);`
-- `let r007, r1;`; `r7 = f();`; `if (c)`; `r1 = 2;`
--   gives `let r1;`; `let r7 = f();`; `if (c)`; `r1 = 2;`
-- `let r3;`; `let r4;`; `r3 = 1;`
--   gives `let r3;`; `let r4;`; `r3 = 1;`
unfoldable pub rows : List Row
rows =
    row ((118 ∷ 97 ∷ 114 ∷ 32 ∷ 120 ∷ 59 ∷ []) ∷ (32 ∷ 32 ∷ 108 ∷ 101 ∷ 116 ∷ 32 ∷ 114 ∷ 48 ∷ 59 ∷ []) ∷ (125 ∷ []) ∷ (32 ∷ 32 ∷ 114 ∷ 48 ∷ 32 ∷ 61 ∷ 32 ∷ 49 ∷ 59 ∷ []) ∷ []) ((118 ∷ 97 ∷ 114 ∷ 32 ∷ 120 ∷ 59 ∷ []) ∷ (125 ∷ []) ∷ (32 ∷ 32 ∷ 108 ∷ 101 ∷ 116 ∷ 32 ∷ 114 ∷ 48 ∷ 32 ∷ 61 ∷ 32 ∷ 49 ∷ 59 ∷ []) ∷ [])
    ∷ row ((105 ∷ 102 ∷ 32 ∷ 40 ∷ 120 ∷ 41 ∷ 32 ∷ 123 ∷ []) ∷ (118 ∷ 97 ∷ 114 ∷ 32 ∷ 120 ∷ 59 ∷ []) ∷ (32 ∷ 32 ∷ 108 ∷ 101 ∷ 116 ∷ 32 ∷ 114 ∷ 48 ∷ 59 ∷ []) ∷ (125 ∷ []) ∷ (32 ∷ 32 ∷ 114 ∷ 48 ∷ 32 ∷ 61 ∷ 32 ∷ 49 ∷ 59 ∷ []) ∷ []) ((105 ∷ 102 ∷ 32 ∷ 40 ∷ 120 ∷ 41 ∷ 32 ∷ 123 ∷ []) ∷ (118 ∷ 97 ∷ 114 ∷ 32 ∷ 120 ∷ 59 ∷ []) ∷ (32 ∷ 32 ∷ 108 ∷ 101 ∷ 116 ∷ 32 ∷ 114 ∷ 48 ∷ 59 ∷ []) ∷ (125 ∷ []) ∷ (32 ∷ 32 ∷ 114 ∷ 48 ∷ 32 ∷ 61 ∷ 32 ∷ 49 ∷ 59 ∷ []) ∷ [])
    ∷ row ((108 ∷ 101 ∷ 116 ∷ 32 ∷ 114 ∷ 49 ∷ 44 ∷ 32 ∷ 114 ∷ 50 ∷ 59 ∷ []) ∷ (32 ∷ 32 ∷ 114 ∷ 49 ∷ 32 ∷ 61 ∷ 32 ∷ 114 ∷ 49 ∷ 32 ∷ 43 ∷ 32 ∷ 49 ∷ 59 ∷ []) ∷ (32 ∷ 32 ∷ 117 ∷ 115 ∷ 101 ∷ 40 ∷ 114 ∷ 50 ∷ 41 ∷ 59 ∷ []) ∷ []) ((108 ∷ 101 ∷ 116 ∷ 32 ∷ 114 ∷ 50 ∷ 59 ∷ []) ∷ (32 ∷ 32 ∷ 108 ∷ 101 ∷ 116 ∷ 32 ∷ 114 ∷ 49 ∷ 32 ∷ 61 ∷ 32 ∷ 114 ∷ 49 ∷ 32 ∷ 43 ∷ 32 ∷ 49 ∷ 59 ∷ []) ∷ (32 ∷ 32 ∷ 117 ∷ 115 ∷ 101 ∷ 40 ∷ 114 ∷ 50 ∷ 41 ∷ 59 ∷ []) ∷ [])
    ∷ row ((108 ∷ 101 ∷ 116 ∷ 32 ∷ 114 ∷ 48 ∷ 48 ∷ 55 ∷ 44 ∷ 32 ∷ 114 ∷ 49 ∷ 59 ∷ []) ∷ (114 ∷ 55 ∷ 32 ∷ 61 ∷ 32 ∷ 102 ∷ 40 ∷ 41 ∷ 59 ∷ []) ∷ (105 ∷ 102 ∷ 32 ∷ 40 ∷ 99 ∷ 41 ∷ []) ∷ (114 ∷ 49 ∷ 32 ∷ 61 ∷ 32 ∷ 50 ∷ 59 ∷ []) ∷ []) ((108 ∷ 101 ∷ 116 ∷ 32 ∷ 114 ∷ 49 ∷ 59 ∷ []) ∷ (108 ∷ 101 ∷ 116 ∷ 32 ∷ 114 ∷ 55 ∷ 32 ∷ 61 ∷ 32 ∷ 102 ∷ 40 ∷ 41 ∷ 59 ∷ []) ∷ (105 ∷ 102 ∷ 32 ∷ 40 ∷ 99 ∷ 41 ∷ []) ∷ (114 ∷ 49 ∷ 32 ∷ 61 ∷ 32 ∷ 50 ∷ 59 ∷ []) ∷ [])
    ∷ row ((108 ∷ 101 ∷ 116 ∷ 32 ∷ 114 ∷ 51 ∷ 59 ∷ []) ∷ (108 ∷ 101 ∷ 116 ∷ 32 ∷ 114 ∷ 52 ∷ 59 ∷ []) ∷ (114 ∷ 51 ∷ 32 ∷ 61 ∷ 32 ∷ 49 ∷ 59 ∷ []) ∷ []) ((108 ∷ 101 ∷ 116 ∷ 32 ∷ 114 ∷ 51 ∷ 59 ∷ []) ∷ (108 ∷ 101 ∷ 116 ∷ 32 ∷ 114 ∷ 52 ∷ 59 ∷ []) ∷ (114 ∷ 51 ∷ 32 ∷ 61 ∷ 32 ∷ 49 ∷ 59 ∷ []) ∷ [])
    ∷ []

pub examples : map (λ (r : Row). bind_declarators plain r.lines) rows ≡ map (λ (r : Row). r.result) rows
unfolding rows up_to count_of prefixed suffixed same holds cut_on lines_of parts_of unlines lacks no_lf act apply is_white seq_len scan utf8_of white_char white_head white_tail lead from_of end_white to_of trim_of numbered read_number zeros decimal_by decimal number_after reg_of phi_of is_temp is_ident all_regs is_decl store_in parse_of text_of runs_go runs count_by up_by walk_runs run_hits hits_go hits one_hit reg_hit after_new as_target glue_left glue_right glued replaced_at replace_reg quote_len pattern_len comment_len last_of token_of token_at lex_go strip_lexical tail_of pushed grown clean_step is_header headed regions_go regions region_next until_header region region_at up_header brace_of push count top stack_after next_after blocks_go blocks cleaned may_at depth_at depth_after own_line own_go own starts_after starts_by_last starts_above starts_go is_assign left_of right_of assign_of line_reads line_stores line_uses used_in commas decl_act keep_names act_of acts_go prune_decls_acts prune_decls block_lines_of block_lines lines_within until_head piece_count decl_count store_count first_use bound any_bound unbound mark mark_all pieces_of bind_act bind_go bind_declarators_acts bind_declarators
examples = refl

-- ---- a tail that closes a brace which it did not open is outside the law of a cut

-- `if (x) {`, and below it `var x;`; `  let r0;`; `}`; `  r0 = 1;`
unfoldable pub upper : List (List ℕ)
upper = (105 ∷ 102 ∷ 32 ∷ 40 ∷ 120 ∷ 41 ∷ 32 ∷ 123 ∷ []) ∷ []

unfoldable pub tail : List (List ℕ)
tail = (118 ∷ 97 ∷ 114 ∷ 32 ∷ 120 ∷ 59 ∷ []) ∷ (32 ∷ 32 ∷ 108 ∷ 101 ∷ 116 ∷ 32 ∷ 114 ∷ 48 ∷ 59 ∷ []) ∷ (125 ∷ []) ∷ (32 ∷ 32 ∷ 114 ∷ 48 ∷ 32 ∷ 61 ∷ 32 ∷ 49 ∷ 59 ∷ []) ∷ []

pub outside : own (cleaned tail) ≡ false
unfolding tail up_to count_of prefixed suffixed same holds cut_on lines_of parts_of unlines lacks no_lf act apply is_white seq_len scan utf8_of white_char white_head white_tail lead from_of end_white to_of trim_of numbered read_number zeros decimal_by decimal number_after reg_of phi_of is_temp is_ident all_regs is_decl store_in parse_of text_of runs_go runs count_by up_by walk_runs run_hits hits_go hits one_hit reg_hit after_new as_target glue_left glue_right glued replaced_at replace_reg quote_len pattern_len comment_len last_of token_of token_at lex_go strip_lexical tail_of pushed grown clean_step is_header headed regions_go regions region_next until_header region region_at up_header brace_of push count top stack_after next_after blocks_go blocks cleaned may_at depth_at depth_after own_line own_go own starts_after starts_by_last starts_above starts_go is_assign left_of right_of assign_of line_reads line_stores line_uses used_in commas decl_act keep_names act_of acts_go prune_decls_acts prune_decls block_lines_of block_lines lines_within until_head piece_count decl_count store_count first_use bound any_bound unbound mark mark_all pieces_of bind_act bind_go bind_declarators_acts bind_declarators
outside = refl

-- and there the two do not give the same: 5 lines and 4
pub uncut : (length (bind_declarators plain (upper ++ tail)) ≡ 5) × (length (bind_declarators plain upper ++ bind_declarators plain tail) ≡ 4)
unfolding upper tail up_to count_of prefixed suffixed same holds cut_on lines_of parts_of unlines lacks no_lf act apply is_white seq_len scan utf8_of white_char white_head white_tail lead from_of end_white to_of trim_of numbered read_number zeros decimal_by decimal number_after reg_of phi_of is_temp is_ident all_regs is_decl store_in parse_of text_of runs_go runs count_by up_by walk_runs run_hits hits_go hits one_hit reg_hit after_new as_target glue_left glue_right glued replaced_at replace_reg quote_len pattern_len comment_len last_of token_of token_at lex_go strip_lexical tail_of pushed grown clean_step is_header headed regions_go regions region_next until_header region region_at up_header brace_of push count top stack_after next_after blocks_go blocks cleaned may_at depth_at depth_after own_line own_go own starts_after starts_by_last starts_above starts_go is_assign left_of right_of assign_of line_reads line_stores line_uses used_in commas decl_act keep_names act_of acts_go prune_decls_acts prune_decls block_lines_of block_lines lines_within until_head piece_count decl_count store_count first_use bound any_bound unbound mark mark_all pieces_of bind_act bind_go bind_declarators_acts bind_declarators
uncut = (refl, refl)
