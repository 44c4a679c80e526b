-- The sweep on the listing of docs/RULES.md. What is expected is the original's own list. Assumes nothing.
use Prim.Native.Nat.{ℕ}
use mathlib.Core.Path.{◌≡◌, refl}
use mathlib.Core.Bool.{true, false}
use mathlib.Core.List.{List, [], ◌∷◌}
use Rattle.lines.specs.Ascii.{ascii}
use Rattle.lines.specs.Lf.{up_to, count_of, prefixed, suffixed, same, holds, cut_on, lines_of, parts_of}
use Rattle.lines.specs.Inner.Lf.{lacks, no_lf}
use Rattle.text.specs.White.{is_white}
use Rattle.text.specs.Utf8Form.{seq_len, scan, utf8_of}
use Rattle.text.specs.Trim.{white_char, white_head, white_tail, lead, from_of, end_white, to_of, trim_of}
use Rattle.names.specs.Names.{numbered, read_number, decimal_by, decimal, reg_of, phi_of, is_temp, is_ident}
use Rattle.names.specs.Inner.Names.{zeros, number_after}
use Rattle.parse.specs.Parse.{all_regs, is_decl, store_in, parse_of, text_of}
use Rattle.words.specs.Runs.{runs_go, runs, count_by}
use Rattle.words.specs.Inner.Runs.{up_by, walk_runs, run_hits}
use Rattle.words.specs.Hits.{hits_go, hits, one_hit, reg_hit, after_new, as_target, glue_left, glue_right, glued, replaced_at, replace_reg}
use Rattle.lexical.specs.Lex.{quote_len, pattern_len, comment_len, last_of, token_of, lex_go, strip_lexical}
use Rattle.lexical.specs.Inner.Lex.{token_at, tail_of, pushed, grown, clean_step}
use Rattle.place.specs.Region.{is_header, until_header, region, region_at}
use Rattle.place.specs.Inner.Region.{headed, regions_go, regions, region_next, up_header}
use Rattle.place.specs.Blocks.{brace_of, push, count, top, stack_after, next_after, blocks_go, blocks, cleaned}
use Rattle.place.specs.Inner.Blocks.{may_at, depth_at, depth_after, own_line, own_go, own}
use Rattle.place.specs.Starts.{starts_after, starts_above, starts_go}
use Rattle.place.specs.Inner.Starts.{starts_by_last}
use Rattle.reading.specs.Assign.{is_assign, left_of, right_of}
use Rattle.reading.specs.Inner.Assign.{assign_of}
use Rattle.reading.specs.Uses.{line_reads, line_stores, line_uses, used_in}
use Rattle.expr.specs.Fix.{deep, fix}
use Rattle.expr.specs.Comments.{strip, strip_comments}
use Rattle.expr.specs.Inner.Comments.{no_comment}
use Rattle.expr.specs.Pure.{space_start, space_end, space_trim, wrapped, shape_of, openings, closings, elements, pure_by, judge, purity_in}
use Rattle.expr.specs.Inner.Pure.{purity_cut}
use Rattle.place.specs.Paths.{path_closes, path_after, path_next, paths_go, block_paths, tops}
use Rattle.place.specs.Loops.{opens_loop, any_loop, loops_after, loops_go, inside_loop}
use Rattle.place.specs.Inner.Loops.{nest_open, nest_close, nest_line}
use Rattle.once.specs.Scratch.{is_member, live_below, called_below, scratch_at}
use Rattle.once.specs.Once.{spots_of, spots, lines_in}
use Rattle.engines.specs.Engines.{table_above, swept, sweep_drops, sweep_engine}
use Rattle.reading.specs.Reading.{plain}

-- the listing of docs/RULES.md on which the plain engine is shown
unfoldable pub shown : List (List ℕ)
shown =
    ascii "function f(a) {"
    ∷ ascii "  r0 = 1;"
    ∷ ascii "  r0 = a;"
    ∷ ascii "  use(r0, r0);"
    ∷ ascii "  r1 = 2;"
    ∷ ascii "  if (a) {"
    ∷ ascii "    r1 = 3;"
    ∷ ascii "  }"
    ∷ ascii "  use(r1, r1);"
    ∷ ascii "  r2 = 4;"
    ∷ ascii "  r2 = r2;"
    ∷ ascii "  r3 = g();"
    ∷ ascii "  while (a) {"
    ∷ ascii "    r4 = 5;"
    ∷ ascii "  }"
    ∷ ascii "  r5 = a;"
    ∷ ascii "}"
    ∷ ascii "var x = r5;"
    ∷ []

-- which of its lines go, by the sweep; what is expected is the original's own list
pub shown-drops : sweep_engine plain shown
    ≡ false ∷ true ∷ false ∷ false ∷ false ∷ false ∷ false ∷ false ∷ false ∷ false ∷ false ∷ false ∷ false ∷ false ∷ false ∷ true ∷ false ∷ false ∷ []
unfolding shown up_to count_of prefixed suffixed same holds cut_on lines_of parts_of lacks no_lf is_white seq_len scan utf8_of white_char white_head white_tail lead from_of end_white to_of trim_of numbered read_number zeros decimal_by decimal number_after reg_of phi_of is_temp is_ident all_regs is_decl store_in parse_of text_of runs_go runs count_by up_by walk_runs run_hits hits_go hits one_hit reg_hit after_new as_target glue_left glue_right glued replaced_at replace_reg quote_len pattern_len comment_len last_of token_of token_at lex_go strip_lexical tail_of pushed grown clean_step is_header headed regions_go regions region_next until_header region region_at up_header brace_of push count top stack_after next_after blocks_go blocks cleaned may_at depth_at depth_after own_line own_go own starts_after starts_by_last starts_above starts_go is_assign left_of right_of assign_of line_reads line_stores line_uses used_in deep fix strip strip_comments no_comment space_start space_end space_trim wrapped shape_of openings closings elements pure_by judge purity_in purity_cut path_closes path_after path_next paths_go block_paths tops opens_loop any_loop loops_after loops_go inside_loop nest_open nest_close nest_line is_member live_below called_below scratch_at spots_of spots lines_in table_above swept sweep_drops sweep_engine
shown-drops = refl
