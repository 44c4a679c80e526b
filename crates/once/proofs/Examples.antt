-- optimize_once on some listings, as one table. What is expected is the original's answer. Assumes nothing.
use Prim.Native.Nat.{ℕ}
use mathlib.Core.Path.{◌≡◌, refl}
use mathlib.Core.List.{List, [], ◌∷◌, map}
use Rattle.lines.specs.Lf.{up_to, count_of, prefixed, suffixed, same, holds, cut_on, lines_of, parts_of, unlines}
use Rattle.lines.specs.Inner.Lf.{lacks, no_lf}
use Rattle.lines.specs.Acts.{act, apply}
use Rattle.text.specs.White.{is_white}
use Rattle.text.specs.Utf8Form.{seq_len, scan, utf8_of}
use Rattle.text.specs.Trim.{white_char, white_head, white_tail, lead, from_of, end_white, to_of, trim_of}
use Rattle.names.specs.Names.{numbered, read_number, decimal_by, decimal, reg_of, phi_of, is_temp, is_ident}
use Rattle.names.specs.Inner.Names.{zeros, number_after}
use Rattle.parse.specs.Parse.{all_regs, is_decl, store_in, parse_of, text_of}
use Rattle.words.specs.Runs.{runs_go, runs, count_by}
use Rattle.words.specs.Inner.Runs.{up_by, walk_runs, run_hits}
use Rattle.words.specs.Hits.{hits_go, hits, one_hit, reg_hit, after_new, as_target, glue_left, glue_right, glued, replaced_at, replace_reg}
use Rattle.lexical.specs.Lex.{quote_len, pattern_len, comment_len, last_of, token_of, lex_go, strip_lexical}
use Rattle.lexical.specs.Inner.Lex.{token_at, tail_of, pushed, grown, clean_step}
use Rattle.place.specs.Region.{is_header, until_header, region, region_at}
use Rattle.place.specs.Inner.Region.{headed, regions_go, regions, region_next, up_header}
use Rattle.place.specs.Blocks.{brace_of, push, count, top, stack_after, next_after, blocks_go, blocks, cleaned}
use Rattle.place.specs.Inner.Blocks.{may_at, depth_at, depth_after, own_line, own_go, own}
use Rattle.place.specs.Starts.{starts_after, starts_above, starts_go}
use Rattle.place.specs.Inner.Starts.{starts_by_last}
use Rattle.reading.specs.Assign.{is_assign, left_of, right_of}
use Rattle.reading.specs.Inner.Assign.{assign_of}
use Rattle.reading.specs.Uses.{line_reads, line_stores, line_uses, used_in}
use Rattle.decls.specs.Decls.{commas, decl_act, keep_names, act_of, acts_go, prune_decls_acts, prune_decls}
use Rattle.expr.specs.Fix.{deep, fix}
use Rattle.expr.specs.Comments.{strip, strip_comments}
use Rattle.expr.specs.Inner.Comments.{no_comment}
use Rattle.expr.specs.Pure.{space_start, space_end, space_trim, wrapped, shape_of, openings, closings, elements, pure_by, judge, purity_in}
use Rattle.expr.specs.Inner.Pure.{purity_cut}
use Rattle.place.specs.Paths.{path_closes, path_after, path_next, paths_go, block_paths, tops}
use Rattle.place.specs.Loops.{opens_loop, any_loop, loops_after, loops_go, inside_loop}
use Rattle.place.specs.Inner.Loops.{nest_open, nest_close, nest_line}
use Rattle.once.specs.Scratch.{is_member, live_below, called_below, scratch_at}
use Rattle.once.specs.Once.{spots_of, spots, lines_in, next_use, dropped, read_count, later_read, forwards, once_act, once_go, once_acts, optimize_once}
use Rattle.reading.specs.Reading.{plain}

-- the lines of a listing, and what they become
pub record Row : Type 0 where
  pub lines : List (List ℕ)
  pub result : List (List ℕ)

abbrev pub row : List (List ℕ) → List (List ℕ) → Row
row ls rs = record { lines = ls; result = rs }

-- `r0 = a;`; `r1 = r0;`; `r2 = r1;`; `use(r2);`
--   gives `r0 = a;`; `r1 = r0;`; `use(r1);`
-- `let r1, r2;`; `r1 = 1;`; `r1 = 2;`; `r2 = r3.log;`; `r3.log(r1);`
--   gives `let r1;`; `r1 = 2;`; `r3.log(r1);`
-- `while (c) {`; `  r1 = 1;`; `}`; `r2 = 5;`; `var x = r2.y;`
--   gives `while (c) {`; `  r1 = 1;`; `}`; `var x = r2.y;`
-- `r1 = a;`; `use(r1);`; `var y;`; `use(r1);`
--   gives `r1 = a;`; `use(r1);`; `var y;`; `use(r1);`
-- `try {`; `  r0 = a;`; `} catch (e) {`; `  r0 = b;`; `}`; `return r0;`
--   gives `try {`; `  r0 = a;`; `} catch (e) {`; `  r0 = b;`; `}`; `return r0;`
unfoldable pub rows : List Row
rows =
    row ((114 ∷ 48 ∷ 32 ∷ 61 ∷ 32 ∷ 97 ∷ 59 ∷ []) ∷ (114 ∷ 49 ∷ 32 ∷ 61 ∷ 32 ∷ 114 ∷ 48 ∷ 59 ∷ []) ∷ (114 ∷ 50 ∷ 32 ∷ 61 ∷ 32 ∷ 114 ∷ 49 ∷ 59 ∷ []) ∷ (117 ∷ 115 ∷ 101 ∷ 40 ∷ 114 ∷ 50 ∷ 41 ∷ 59 ∷ []) ∷ []) ((114 ∷ 48 ∷ 32 ∷ 61 ∷ 32 ∷ 97 ∷ 59 ∷ []) ∷ (114 ∷ 49 ∷ 32 ∷ 61 ∷ 32 ∷ 114 ∷ 48 ∷ 59 ∷ []) ∷ (117 ∷ 115 ∷ 101 ∷ 40 ∷ 114 ∷ 49 ∷ 41 ∷ 59 ∷ []) ∷ [])
    ∷ row ((108 ∷ 101 ∷ 116 ∷ 32 ∷ 114 ∷ 49 ∷ 44 ∷ 32 ∷ 114 ∷ 50 ∷ 59 ∷ []) ∷ (114 ∷ 49 ∷ 32 ∷ 61 ∷ 32 ∷ 49 ∷ 59 ∷ []) ∷ (114 ∷ 49 ∷ 32 ∷ 61 ∷ 32 ∷ 50 ∷ 59 ∷ []) ∷ (114 ∷ 50 ∷ 32 ∷ 61 ∷ 32 ∷ 114 ∷ 51 ∷ 46 ∷ 108 ∷ 111 ∷ 103 ∷ 59 ∷ []) ∷ (114 ∷ 51 ∷ 46 ∷ 108 ∷ 111 ∷ 103 ∷ 40 ∷ 114 ∷ 49 ∷ 41 ∷ 59 ∷ []) ∷ []) ((108 ∷ 101 ∷ 116 ∷ 32 ∷ 114 ∷ 49 ∷ 59 ∷ []) ∷ (114 ∷ 49 ∷ 32 ∷ 61 ∷ 32 ∷ 50 ∷ 59 ∷ []) ∷ (114 ∷ 51 ∷ 46 ∷ 108 ∷ 111 ∷ 103 ∷ 40 ∷ 114 ∷ 49 ∷ 41 ∷ 59 ∷ []) ∷ [])
    ∷ row ((119 ∷ 104 ∷ 105 ∷ 108 ∷ 101 ∷ 32 ∷ 40 ∷ 99 ∷ 41 ∷ 32 ∷ 123 ∷ []) ∷ (32 ∷ 32 ∷ 114 ∷ 49 ∷ 32 ∷ 61 ∷ 32 ∷ 49 ∷ 59 ∷ []) ∷ (125 ∷ []) ∷ (114 ∷ 50 ∷ 32 ∷ 61 ∷ 32 ∷ 53 ∷ 59 ∷ []) ∷ (118 ∷ 97 ∷ 114 ∷ 32 ∷ 120 ∷ 32 ∷ 61 ∷ 32 ∷ 114 ∷ 50 ∷ 46 ∷ 121 ∷ 59 ∷ []) ∷ []) ((119 ∷ 104 ∷ 105 ∷ 108 ∷ 101 ∷ 32 ∷ 40 ∷ 99 ∷ 41 ∷ 32 ∷ 123 ∷ []) ∷ (32 ∷ 32 ∷ 114 ∷ 49 ∷ 32 ∷ 61 ∷ 32 ∷ 49 ∷ 59 ∷ []) ∷ (125 ∷ []) ∷ (118 ∷ 97 ∷ 114 ∷ 32 ∷ 120 ∷ 32 ∷ 61 ∷ 32 ∷ 114 ∷ 50 ∷ 46 ∷ 121 ∷ 59 ∷ []) ∷ [])
    ∷ row ((114 ∷ 49 ∷ 32 ∷ 61 ∷ 32 ∷ 97 ∷ 59 ∷ []) ∷ (117 ∷ 115 ∷ 101 ∷ 40 ∷ 114 ∷ 49 ∷ 41 ∷ 59 ∷ []) ∷ (118 ∷ 97 ∷ 114 ∷ 32 ∷ 121 ∷ 59 ∷ []) ∷ (117 ∷ 115 ∷ 101 ∷ 40 ∷ 114 ∷ 49 ∷ 41 ∷ 59 ∷ []) ∷ []) ((114 ∷ 49 ∷ 32 ∷ 61 ∷ 32 ∷ 97 ∷ 59 ∷ []) ∷ (117 ∷ 115 ∷ 101 ∷ 40 ∷ 114 ∷ 49 ∷ 41 ∷ 59 ∷ []) ∷ (118 ∷ 97 ∷ 114 ∷ 32 ∷ 121 ∷ 59 ∷ []) ∷ (117 ∷ 115 ∷ 101 ∷ 40 ∷ 114 ∷ 49 ∷ 41 ∷ 59 ∷ []) ∷ [])
    ∷ row ((116 ∷ 114 ∷ 121 ∷ 32 ∷ 123 ∷ []) ∷ (32 ∷ 32 ∷ 114 ∷ 48 ∷ 32 ∷ 61 ∷ 32 ∷ 97 ∷ 59 ∷ []) ∷ (125 ∷ 32 ∷ 99 ∷ 97 ∷ 116 ∷ 99 ∷ 104 ∷ 32 ∷ 40 ∷ 101 ∷ 41 ∷ 32 ∷ 123 ∷ []) ∷ (32 ∷ 32 ∷ 114 ∷ 48 ∷ 32 ∷ 61 ∷ 32 ∷ 98 ∷ 59 ∷ []) ∷ (125 ∷ []) ∷ (114 ∷ 101 ∷ 116 ∷ 117 ∷ 114 ∷ 110 ∷ 32 ∷ 114 ∷ 48 ∷ 59 ∷ []) ∷ []) ((116 ∷ 114 ∷ 121 ∷ 32 ∷ 123 ∷ []) ∷ (32 ∷ 32 ∷ 114 ∷ 48 ∷ 32 ∷ 61 ∷ 32 ∷ 97 ∷ 59 ∷ []) ∷ (125 ∷ 32 ∷ 99 ∷ 97 ∷ 116 ∷ 99 ∷ 104 ∷ 32 ∷ 40 ∷ 101 ∷ 41 ∷ 32 ∷ 123 ∷ []) ∷ (32 ∷ 32 ∷ 114 ∷ 48 ∷ 32 ∷ 61 ∷ 32 ∷ 98 ∷ 59 ∷ []) ∷ (125 ∷ []) ∷ (114 ∷ 101 ∷ 116 ∷ 117 ∷ 114 ∷ 110 ∷ 32 ∷ 114 ∷ 48 ∷ 59 ∷ []) ∷ [])
    ∷ []

pub examples : map (λ (r : Row). optimize_once plain r.lines) rows ≡ map (λ (r : Row). r.result) rows
unfolding rows up_to count_of prefixed suffixed same holds cut_on lines_of parts_of unlines lacks no_lf act apply is_white seq_len scan utf8_of white_char white_head white_tail lead from_of end_white to_of trim_of numbered read_number zeros decimal_by decimal number_after reg_of phi_of is_temp is_ident all_regs is_decl store_in parse_of text_of runs_go runs count_by up_by walk_runs run_hits hits_go hits one_hit reg_hit after_new as_target glue_left glue_right glued replaced_at replace_reg quote_len pattern_len comment_len last_of token_of token_at lex_go strip_lexical tail_of pushed grown clean_step is_header headed regions_go regions region_next until_header region region_at up_header brace_of push count top stack_after next_after blocks_go blocks cleaned may_at depth_at depth_after own_line own_go own starts_after starts_by_last starts_above starts_go is_assign left_of right_of assign_of line_reads line_stores line_uses used_in commas decl_act keep_names act_of acts_go prune_decls_acts prune_decls deep fix strip strip_comments no_comment space_start space_end space_trim wrapped shape_of openings closings elements pure_by judge purity_in purity_cut path_closes path_after path_next paths_go block_paths tops opens_loop any_loop loops_after loops_go inside_loop nest_open nest_close nest_line is_member live_below called_below scratch_at spots_of spots lines_in next_use dropped read_count later_read forwards once_act once_go once_acts optimize_once
examples = refl
