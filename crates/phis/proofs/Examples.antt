-- prune_dead_phis on some listings, as one table. What is expected is the original's answer. Assumes nothing.
use Prim.Native.Nat.{ℕ}
use mathlib.Core.Path.{◌≡◌, refl}
use mathlib.Core.List.{List, [], ◌∷◌, map}
use Rattle.lines.specs.Ascii.{ascii}
use Rattle.lines.specs.Lf.{up_to, count_of, prefixed, suffixed, same, holds, cut_on, lines_of, parts_of, unlines}
use Rattle.lines.specs.Inner.Lf.{lacks, no_lf}
use Rattle.lines.specs.Acts.{act, apply}
use Rattle.text.specs.White.{is_white}
use Rattle.text.specs.Utf8Form.{seq_len, scan, utf8_of}
use Rattle.text.specs.Trim.{white_char, white_head, white_tail, lead, from_of, end_white, to_of, trim_of}
use Rattle.names.specs.Names.{numbered, read_number, decimal_by, decimal, reg_of, phi_of, is_temp, is_ident}
use Rattle.names.specs.Inner.Names.{zeros, number_after}
use Rattle.parse.specs.Parse.{all_regs, is_decl, store_in, parse_of, text_of, is_let}
use Rattle.words.specs.Runs.{runs_go, runs, count_by}
use Rattle.words.specs.Inner.Runs.{up_by, walk_runs, run_hits}
use Rattle.words.specs.Hits.{hits_go, hits, one_hit, reg_hit, after_new, as_target, glue_left, glue_right, glued, replaced_at, replace_reg}
use Rattle.lexical.specs.Lex.{quote_len, quote_shut, pattern_len, comment_len, last_of, token_of, lex_go, strip_lexical}
use Rattle.lexical.specs.Inner.Lex.{token_at, tail_of, pushed, grown, clean_step}
use Rattle.place.specs.Region.{is_header, until_header, region, region_at}
use Rattle.place.specs.Inner.Region.{headed, regions_go, regions, region_next, up_header}
use Rattle.place.specs.Blocks.{brace_of, push, count, top, stack_after, next_after, blocks_go, blocks, cleaned}
use Rattle.place.specs.Inner.Blocks.{may_at, depth_at, depth_after, own_line, own_go, own}
use Rattle.place.specs.Starts.{starts_after, starts_above, starts_go}
use Rattle.place.specs.Inner.Starts.{starts_by_last}
use Rattle.reading.specs.Assign.{is_assign, left_of, right_of}
use Rattle.reading.specs.Inner.Assign.{assign_of}
use Rattle.reading.specs.Uses.{line_reads, line_stores, line_uses, used_in}
use Rattle.decls.specs.Decls.{commas, decl_act, keep_names, act_of, acts_go, prune_decls_acts, prune_decls}
use Rattle.lexical.specs.Phi.{any_of, assigns, phi_pure, phi_rhs_pure}
use Rattle.lexical.specs.Inner.Phi.{sees, sees_all}
use Rattle.expr.specs.Fix.{deep, fix}
use Rattle.expr.specs.Comments.{strip, strip_comments}
use Rattle.expr.specs.Quotes.{cut_go, strip_quoted, is_closed}
use Rattle.expr.specs.Inner.Comments.{no_comment}
use Rattle.expr.specs.Pure.{space_start, space_end, space_trim, wrapped, shape_of, openings, closings, elements, pure_by, judge, purity_in}
use Rattle.expr.specs.Inner.Pure.{purity_cut}
use Rattle.phis.specs.Phis.{all_phis, phi_decl, any_phi, phi_store, phi_own, phi_reads, phi_read, phi_stored, any_dead, live_phis, phi_act, phi_acts, keeps, round_acts, round, prune_dead_phis}
use Rattle.reading.specs.Reading.{plain, reading_of}

-- the lines of a listing, and what they become
pub record Row : Type 0 where
  pub lines : List (List ℕ)
  pub result : List (List ℕ)

abbrev pub row : List (List ℕ) → List (List ℕ) → Row
row ls rs = record { lines = ls; result = rs }

-- `let phi1, phi2;`; `phi1 = r7 === 1;`; `phi2 = f();`; `use(r7);`
--   gives `f();`; `use(r7);`
-- `  let phi7,phi8;`; `  phi007 = a;`; `  x = phi8;`
--   gives `  let phi8;`; `  x = phi8;`
-- `phi1 = phi2;`; `phi2 = phi3;`; `phi3 = phi4;`; `phi4 = 1;`
--   gives `phi4 = 1;`
-- `phi1 == 1;`
--   gives `= 1;`
-- `phi1 = 1; `
--   gives `phi1 = 1; `
-- ` phi2 = phi2 + g(1);`
--   gives ` phi2 + g(1);`
-- `let phi7, phi8;`; `phi7 = f();`; `phi007 = g();`; `x = phi007;`; `y(phi8);`
--   gives `let phi8;`; `f();`; `g();`; `x = phi007;`; `y(phi8);`
-- `let phi7 ,phi8;`; `phi8 = 1;`; `x = phi8;`
--   gives `let phi7 ,phi8;`; `phi8 = 1;`; `x = phi8;`
-- `let phi7 ,phi8;`; `phi8 = 1;`; `x = phi8;`; `phi9 = 1;`
--   gives `let phi7, phi8;`; `phi8 = 1;`; `x = phi8;`
unfoldable pub rows : List Row
rows =
    row ((108 ∷ 101 ∷ 116 ∷ 32 ∷ 112 ∷ 104 ∷ 105 ∷ 49 ∷ 44 ∷ 32 ∷ 112 ∷ 104 ∷ 105 ∷ 50 ∷ 59 ∷ []) ∷ (112 ∷ 104 ∷ 105 ∷ 49 ∷ 32 ∷ 61 ∷ 32 ∷ 114 ∷ 55 ∷ 32 ∷ 61 ∷ 61 ∷ 61 ∷ 32 ∷ 49 ∷ 59 ∷ []) ∷ (112 ∷ 104 ∷ 105 ∷ 50 ∷ 32 ∷ 61 ∷ 32 ∷ 102 ∷ 40 ∷ 41 ∷ 59 ∷ []) ∷ (117 ∷ 115 ∷ 101 ∷ 40 ∷ 114 ∷ 55 ∷ 41 ∷ 59 ∷ []) ∷ []) ((102 ∷ 40 ∷ 41 ∷ 59 ∷ []) ∷ (117 ∷ 115 ∷ 101 ∷ 40 ∷ 114 ∷ 55 ∷ 41 ∷ 59 ∷ []) ∷ [])
    ∷ row ((32 ∷ 32 ∷ 108 ∷ 101 ∷ 116 ∷ 32 ∷ 112 ∷ 104 ∷ 105 ∷ 55 ∷ 44 ∷ 112 ∷ 104 ∷ 105 ∷ 56 ∷ 59 ∷ []) ∷ (32 ∷ 32 ∷ 112 ∷ 104 ∷ 105 ∷ 48 ∷ 48 ∷ 55 ∷ 32 ∷ 61 ∷ 32 ∷ 97 ∷ 59 ∷ []) ∷ (32 ∷ 32 ∷ 120 ∷ 32 ∷ 61 ∷ 32 ∷ 112 ∷ 104 ∷ 105 ∷ 56 ∷ 59 ∷ []) ∷ []) ((32 ∷ 32 ∷ 108 ∷ 101 ∷ 116 ∷ 32 ∷ 112 ∷ 104 ∷ 105 ∷ 56 ∷ 59 ∷ []) ∷ (32 ∷ 32 ∷ 120 ∷ 32 ∷ 61 ∷ 32 ∷ 112 ∷ 104 ∷ 105 ∷ 56 ∷ 59 ∷ []) ∷ [])
    ∷ row ((112 ∷ 104 ∷ 105 ∷ 49 ∷ 32 ∷ 61 ∷ 32 ∷ 112 ∷ 104 ∷ 105 ∷ 50 ∷ 59 ∷ []) ∷ (112 ∷ 104 ∷ 105 ∷ 50 ∷ 32 ∷ 61 ∷ 32 ∷ 112 ∷ 104 ∷ 105 ∷ 51 ∷ 59 ∷ []) ∷ (112 ∷ 104 ∷ 105 ∷ 51 ∷ 32 ∷ 61 ∷ 32 ∷ 112 ∷ 104 ∷ 105 ∷ 52 ∷ 59 ∷ []) ∷ (112 ∷ 104 ∷ 105 ∷ 52 ∷ 32 ∷ 61 ∷ 32 ∷ 49 ∷ 59 ∷ []) ∷ []) ((112 ∷ 104 ∷ 105 ∷ 52 ∷ 32 ∷ 61 ∷ 32 ∷ 49 ∷ 59 ∷ []) ∷ [])
    ∷ row ((112 ∷ 104 ∷ 105 ∷ 49 ∷ 32 ∷ 61 ∷ 61 ∷ 32 ∷ 49 ∷ 59 ∷ []) ∷ []) ((61 ∷ 32 ∷ 49 ∷ 59 ∷ []) ∷ [])
    ∷ row ((112 ∷ 104 ∷ 105 ∷ 49 ∷ 32 ∷ 61 ∷ 32 ∷ 49 ∷ 59 ∷ 32 ∷ []) ∷ []) ((112 ∷ 104 ∷ 105 ∷ 49 ∷ 32 ∷ 61 ∷ 32 ∷ 49 ∷ 59 ∷ 32 ∷ []) ∷ [])
    ∷ row ((32 ∷ 112 ∷ 104 ∷ 105 ∷ 50 ∷ 32 ∷ 61 ∷ 32 ∷ 112 ∷ 104 ∷ 105 ∷ 50 ∷ 32 ∷ 43 ∷ 32 ∷ 103 ∷ 40 ∷ 49 ∷ 41 ∷ 59 ∷ []) ∷ []) ((32 ∷ 112 ∷ 104 ∷ 105 ∷ 50 ∷ 32 ∷ 43 ∷ 32 ∷ 103 ∷ 40 ∷ 49 ∷ 41 ∷ 59 ∷ []) ∷ [])
    ∷ row ((108 ∷ 101 ∷ 116 ∷ 32 ∷ 112 ∷ 104 ∷ 105 ∷ 55 ∷ 44 ∷ 32 ∷ 112 ∷ 104 ∷ 105 ∷ 56 ∷ 59 ∷ []) ∷ (112 ∷ 104 ∷ 105 ∷ 55 ∷ 32 ∷ 61 ∷ 32 ∷ 102 ∷ 40 ∷ 41 ∷ 59 ∷ []) ∷ (112 ∷ 104 ∷ 105 ∷ 48 ∷ 48 ∷ 55 ∷ 32 ∷ 61 ∷ 32 ∷ 103 ∷ 40 ∷ 41 ∷ 59 ∷ []) ∷ (120 ∷ 32 ∷ 61 ∷ 32 ∷ 112 ∷ 104 ∷ 105 ∷ 48 ∷ 48 ∷ 55 ∷ 59 ∷ []) ∷ (121 ∷ 40 ∷ 112 ∷ 104 ∷ 105 ∷ 56 ∷ 41 ∷ 59 ∷ []) ∷ []) ((108 ∷ 101 ∷ 116 ∷ 32 ∷ 112 ∷ 104 ∷ 105 ∷ 56 ∷ 59 ∷ []) ∷ (102 ∷ 40 ∷ 41 ∷ 59 ∷ []) ∷ (103 ∷ 40 ∷ 41 ∷ 59 ∷ []) ∷ (120 ∷ 32 ∷ 61 ∷ 32 ∷ 112 ∷ 104 ∷ 105 ∷ 48 ∷ 48 ∷ 55 ∷ 59 ∷ []) ∷ (121 ∷ 40 ∷ 112 ∷ 104 ∷ 105 ∷ 56 ∷ 41 ∷ 59 ∷ []) ∷ [])
    ∷ row ((108 ∷ 101 ∷ 116 ∷ 32 ∷ 112 ∷ 104 ∷ 105 ∷ 55 ∷ 32 ∷ 44 ∷ 112 ∷ 104 ∷ 105 ∷ 56 ∷ 59 ∷ []) ∷ (112 ∷ 104 ∷ 105 ∷ 56 ∷ 32 ∷ 61 ∷ 32 ∷ 49 ∷ 59 ∷ []) ∷ (120 ∷ 32 ∷ 61 ∷ 32 ∷ 112 ∷ 104 ∷ 105 ∷ 56 ∷ 59 ∷ []) ∷ []) ((108 ∷ 101 ∷ 116 ∷ 32 ∷ 112 ∷ 104 ∷ 105 ∷ 55 ∷ 32 ∷ 44 ∷ 112 ∷ 104 ∷ 105 ∷ 56 ∷ 59 ∷ []) ∷ (112 ∷ 104 ∷ 105 ∷ 56 ∷ 32 ∷ 61 ∷ 32 ∷ 49 ∷ 59 ∷ []) ∷ (120 ∷ 32 ∷ 61 ∷ 32 ∷ 112 ∷ 104 ∷ 105 ∷ 56 ∷ 59 ∷ []) ∷ [])
    ∷ row ((108 ∷ 101 ∷ 116 ∷ 32 ∷ 112 ∷ 104 ∷ 105 ∷ 55 ∷ 32 ∷ 44 ∷ 112 ∷ 104 ∷ 105 ∷ 56 ∷ 59 ∷ []) ∷ (112 ∷ 104 ∷ 105 ∷ 56 ∷ 32 ∷ 61 ∷ 32 ∷ 49 ∷ 59 ∷ []) ∷ (120 ∷ 32 ∷ 61 ∷ 32 ∷ 112 ∷ 104 ∷ 105 ∷ 56 ∷ 59 ∷ []) ∷ (112 ∷ 104 ∷ 105 ∷ 57 ∷ 32 ∷ 61 ∷ 32 ∷ 49 ∷ 59 ∷ []) ∷ []) ((108 ∷ 101 ∷ 116 ∷ 32 ∷ 112 ∷ 104 ∷ 105 ∷ 55 ∷ 44 ∷ 32 ∷ 112 ∷ 104 ∷ 105 ∷ 56 ∷ 59 ∷ []) ∷ (112 ∷ 104 ∷ 105 ∷ 56 ∷ 32 ∷ 61 ∷ 32 ∷ 49 ∷ 59 ∷ []) ∷ (120 ∷ 32 ∷ 61 ∷ 32 ∷ 112 ∷ 104 ∷ 105 ∷ 56 ∷ 59 ∷ []) ∷ [])
    ∷ []

pub examples : map (λ (r : Row). prune_dead_phis plain r.lines) rows ≡ map (λ (r : Row). r.result) rows
unfolding rows up_to count_of prefixed suffixed same holds cut_on lines_of parts_of unlines lacks no_lf act apply is_white seq_len scan utf8_of white_char white_head white_tail lead from_of end_white to_of trim_of numbered read_number zeros decimal_by decimal number_after reg_of phi_of is_temp is_ident all_regs is_decl store_in parse_of text_of runs_go runs count_by up_by walk_runs run_hits hits_go hits one_hit reg_hit after_new as_target glue_left glue_right glued replaced_at replace_reg quote_len pattern_len comment_len last_of token_of token_at lex_go strip_lexical tail_of pushed grown clean_step is_header headed regions_go regions region_next until_header region region_at up_header brace_of push count top stack_after next_after blocks_go blocks cleaned may_at depth_at depth_after own_line own_go own starts_after starts_by_last starts_above starts_go is_assign left_of right_of assign_of line_reads line_stores line_uses used_in commas decl_act keep_names act_of acts_go prune_decls_acts prune_decls any_of assigns phi_pure phi_rhs_pure sees sees_all deep fix strip strip_comments no_comment space_start space_end space_trim wrapped shape_of openings closings elements pure_by judge purity_in purity_cut is_let all_phis phi_decl any_phi phi_store phi_own phi_reads phi_read phi_stored any_dead live_phis phi_act phi_acts keeps round_acts round prune_dead_phis
examples = refl

-- by mode 0, as the original, and by mode 1: a value between two quotes has no effect in plain mode, and in strict mode only where it is one literal
unfoldable pub quoted : List (List ℕ)
quoted = ascii "let phi1;" ∷ ascii "phi1 = 'a' + f() + 'b';" ∷ ascii "use(r1);" ∷ []

pub by-modes : map (λ (k : ℕ). prune_dead_phis (reading_of k) quoted) (0 ∷ 1 ∷ []) ≡ (ascii "use(r1);" ∷ []) ∷ (ascii "'a' + f() + 'b';" ∷ ascii "use(r1);" ∷ []) ∷ []
unfolding quoted up_to count_of prefixed suffixed same holds cut_on lines_of parts_of unlines lacks no_lf act apply is_white seq_len scan utf8_of white_char white_head white_tail lead from_of end_white to_of trim_of numbered read_number zeros decimal_by decimal number_after reg_of phi_of is_temp is_ident all_regs is_decl store_in parse_of text_of runs_go runs count_by up_by walk_runs run_hits hits_go hits one_hit reg_hit after_new as_target glue_left glue_right glued replaced_at replace_reg quote_len pattern_len comment_len last_of token_of token_at lex_go strip_lexical tail_of pushed grown clean_step is_header headed regions_go regions region_next until_header region region_at up_header brace_of push count top stack_after next_after blocks_go blocks cleaned may_at depth_at depth_after own_line own_go own starts_after starts_by_last starts_above starts_go is_assign left_of right_of assign_of line_reads line_stores line_uses used_in commas decl_act keep_names act_of acts_go prune_decls_acts prune_decls any_of assigns phi_pure phi_rhs_pure sees sees_all deep fix strip strip_comments quote_shut cut_go strip_quoted is_closed no_comment space_start space_end space_trim wrapped shape_of openings closings elements pure_by judge purity_in purity_cut is_let all_phis phi_decl any_phi phi_store phi_own phi_reads phi_read phi_stored any_dead live_phis phi_act phi_acts keeps round_acts round prune_dead_phis
by-modes = refl
