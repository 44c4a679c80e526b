-- bind_declarators in the four modes, on listings with a template over lines. Assumes nothing.
use Prim.Native.Nat.{ℕ}
use mathlib.Core.Path.{◌≡◌, refl}
use mathlib.Core.List.{List, [], ◌∷◌, ◌++◌, map}
use mathlib.Core.Bool.{true, false}
use lib.ListN.{length}
use Rattle.lines.specs.Ascii.{ascii}
use Rattle.lines.specs.Lf.{up_to, count_of, prefixed, suffixed, same, holds, cut_on, lines_of, parts_of, unlines}
use Rattle.lines.specs.Inner.Lf.{lacks, no_lf}
use Rattle.lines.specs.Acts.{act, apply}
use Rattle.text.specs.White.{is_white}
use Rattle.text.specs.Utf8Form.{seq_len, scan, utf8_of}
use Rattle.text.specs.Trim.{white_char, white_head, white_tail, lead, from_of, end_white, to_of, trim_of}
use Rattle.names.specs.Names.{numbered, read_number, decimal_by, decimal, reg_of, phi_of, is_temp, is_ident}
use Rattle.names.specs.Inner.Names.{zeros, number_after}
use Rattle.parse.specs.Parse.{all_regs, is_decl, store_in, parse_of, text_of}
use Rattle.words.specs.Runs.{runs_go, runs, count_by}
use Rattle.words.specs.Inner.Runs.{up_by, walk_runs, run_hits}
use Rattle.words.specs.Hits.{hits_go, hits, one_hit, reg_hit, after_new, as_target, glue_left, glue_right, glued, replaced_at, replace_reg}
use Rattle.lexical.specs.Lex.{quote_len, quote_shut, pattern_len, comment_len, last_of, token_of, lex_go, strip_lexical}
use Rattle.lexical.specs.Inner.Lex.{token_at, tail_of, pushed, grown, clean_step}
use Rattle.lexical.specs.Joined.{taken, shut_in, opens_comment, opens_template, open_go, open_of, open_below, rests_from, open_after}
use Rattle.place.specs.Region.{is_header, until_header, region, region_at}
use Rattle.place.specs.Inner.Region.{headed, regions_go, regions, region_next, up_header}
use Rattle.place.specs.Blocks.{brace_of, push, count, top, stack_after, next_after, blocks_go, blocks, cleaned}
use Rattle.place.specs.Inner.Blocks.{may_at, depth_at, depth_after, own_line, own_go, own}
use Rattle.place.specs.Starts.{starts_after, starts_above, starts_go}
use Rattle.place.specs.Inner.Starts.{starts_by_last}
use Rattle.reading.specs.Assign.{is_assign, left_of, right_of}
use Rattle.reading.specs.Inner.Assign.{assign_of}
use Rattle.reading.specs.Uses.{line_reads, line_stores, line_uses, used_in}
use Rattle.decls.specs.Decls.{commas, decl_act, keep_names, act_of, acts_go, prune_decls_acts, prune_decls}
use Rattle.bind.specs.Bind.{block_lines_of, block_lines, lines_within, until_head, piece_count, decl_count, store_count, first_use, bound, any_bound, unbound, mark, mark_all, pieces_of, bind_act, bind_go, bind_declarators_acts, bind_declarators}
use Rattle.reading.specs.Reading.{clean_in, reading_of, ends_shut}

-- a template of three lines with braces in it
unfoldable pub lines : List (List ℕ)
lines = ascii "  let r0;" ∷ ascii "  x = `{" ∷ ascii "  }} ${y} {" ∷ ascii "`;" ∷ ascii "  r0 = 1;" ∷ []

-- with the register declared at its store
unfoldable pub declared : List (List ℕ)
declared = ascii "  x = `{" ∷ ascii "  }} ${y} {" ∷ ascii "`;" ∷ ascii "  let r0 = 1;" ∷ []

-- modes 0 and 1 take the template's braces for blocks, and leave the listing as it is; modes 2 and 3 do not
pub by-modes : map (λ (k : ℕ). bind_declarators (reading_of k) lines) (0 ∷ 1 ∷ 2 ∷ 3 ∷ []) ≡ lines ∷ lines ∷ declared ∷ declared ∷ []
unfolding lines declared up_to count_of prefixed suffixed same holds cut_on lines_of parts_of unlines lacks no_lf act apply is_white seq_len scan utf8_of white_char white_head white_tail lead from_of end_white to_of trim_of numbered read_number zeros decimal_by decimal number_after reg_of phi_of is_temp is_ident all_regs is_decl store_in parse_of text_of runs_go runs count_by up_by walk_runs run_hits hits_go hits one_hit reg_hit after_new as_target glue_left glue_right glued replaced_at replace_reg quote_len pattern_len comment_len last_of token_of token_at lex_go strip_lexical tail_of pushed grown clean_step is_header headed regions_go regions region_next until_header region region_at up_header brace_of push count top stack_after next_after blocks_go blocks cleaned may_at depth_at depth_after own_line own_go own starts_after starts_by_last starts_above starts_go is_assign left_of right_of assign_of line_reads line_stores line_uses used_in commas decl_act keep_names act_of acts_go prune_decls_acts prune_decls block_lines_of block_lines lines_within until_head piece_count decl_count store_count first_use bound any_bound unbound mark mark_all pieces_of bind_act bind_go bind_declarators_acts bind_declarators quote_shut taken shut_in opens_comment opens_template open_go open_of open_below rests_from open_after
by-modes = refl

-- ---- something open above the tail: outside the law of a cut in joined mode

unfoldable pub upper : List (List ℕ)
upper = ascii "x = `" ∷ []

unfoldable pub tail : List (List ℕ)
tail = ascii "function f() {" ∷ ascii "  let r0;" ∷ ascii "  r0 = 1;" ∷ ascii "}" ∷ []

-- the tail opens with a header and closes no brace that it did not open, and the upper part ends with something open
pub outside : (headed tail ≡ true) × ((own (clean_in true tail) ≡ true) × (ends_shut true upper ≡ false))
unfolding upper tail up_to count_of prefixed suffixed same holds cut_on lines_of parts_of unlines lacks no_lf act apply is_white seq_len scan utf8_of white_char white_head white_tail lead from_of end_white to_of trim_of numbered read_number zeros decimal_by decimal number_after reg_of phi_of is_temp is_ident all_regs is_decl store_in parse_of text_of runs_go runs count_by up_by walk_runs run_hits hits_go hits one_hit reg_hit after_new as_target glue_left glue_right glued replaced_at replace_reg quote_len pattern_len comment_len last_of token_of token_at lex_go strip_lexical tail_of pushed grown clean_step is_header headed regions_go regions region_next until_header region region_at up_header brace_of push count top stack_after next_after blocks_go blocks cleaned may_at depth_at depth_after own_line own_go own starts_after starts_by_last starts_above starts_go is_assign left_of right_of assign_of line_reads line_stores line_uses used_in commas decl_act keep_names act_of acts_go prune_decls_acts prune_decls block_lines_of block_lines lines_within until_head piece_count decl_count store_count first_use bound any_bound unbound mark mark_all pieces_of bind_act bind_go bind_declarators_acts bind_declarators quote_shut taken shut_in opens_comment opens_template open_go open_of open_below rests_from open_after
outside = (refl, (refl, refl))

-- and there the two do not give the same: 5 lines and 4
pub uncut : (length (bind_declarators (reading_of 2) (upper ++ tail)) ≡ 5) × (length (bind_declarators (reading_of 2) upper ++ bind_declarators (reading_of 2) tail) ≡ 4)
unfolding upper tail up_to count_of prefixed suffixed same holds cut_on lines_of parts_of unlines lacks no_lf act apply is_white seq_len scan utf8_of white_char white_head white_tail lead from_of end_white to_of trim_of numbered read_number zeros decimal_by decimal number_after reg_of phi_of is_temp is_ident all_regs is_decl store_in parse_of text_of runs_go runs count_by up_by walk_runs run_hits hits_go hits one_hit reg_hit after_new as_target glue_left glue_right glued replaced_at replace_reg quote_len pattern_len comment_len last_of token_of token_at lex_go strip_lexical tail_of pushed grown clean_step is_header headed regions_go regions region_next until_header region region_at up_header brace_of push count top stack_after next_after blocks_go blocks cleaned may_at depth_at depth_after own_line own_go own starts_after starts_by_last starts_above starts_go is_assign left_of right_of assign_of line_reads line_stores line_uses used_in commas decl_act keep_names act_of acts_go prune_decls_acts prune_decls block_lines_of block_lines lines_within until_head piece_count decl_count store_count first_use bound any_bound unbound mark mark_all pieces_of bind_act bind_go bind_declarators_acts bind_declarators quote_shut taken shut_in opens_comment opens_template open_go open_of open_below rests_from open_after
uncut = (refl, refl)
