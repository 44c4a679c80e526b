-- Small listings over the Rust's reading of lines, as one table with one statement. Assumes nothing.
use Prim.Native.Nat.{ℕ}
use mathlib.Core.Path.{◌≡◌, refl}
use mathlib.Core.List.{List, [], ◌∷◌, map}
use Rattle.lines.specs.Lf.{up_to, prefixed, suffixed, same, holds, cut_on, parts_of}
use Rattle.text.specs.White.{is_white}
use Rattle.text.specs.Utf8Form.{seq_len}
use Rattle.text.specs.Trim.{white_char, white_head, white_tail, lead, from_of, end_white, to_of, trim_of}
use Rattle.names.specs.Names.{numbered, read_number, decimal_by, decimal, reg_of, is_ident}
use Rattle.parse.specs.Parse.{all_regs, is_decl, store_in, parse_of, text_of}
use Rattle.words.specs.Runs.{runs_go, runs, count_by}
use Rattle.words.specs.Hits.{hits_go, hits, one_hit, reg_hit, after_new, as_target, glue_left, glue_right, glued, replaced_at, replace_reg}
use Rattle.lexical.specs.Lex.{quote_len, pattern_len, comment_len, last_of, token_of, lex_go, strip_lexical}
use Rattle.lexical.specs.Idents.{words_in}
use Rattle.place.specs.Region.{is_header}
use Rattle.place.specs.Blocks.{brace_of, push, count, top, stack_after, next_after, blocks_go, blocks, cleaned}
use Rattle.place.specs.Starts.{starts_after, starts_above}
use Rattle.forms.specs.Control.{is_control}
use Rattle.forms.specs.Primary.{all_idents, is_plain_ref, bare_go, primary, bare, paren_if_needed}
use Rattle.forms.specs.Breaks.{writes_any, writes, breaks_with, breaks}
use Rattle.reading.specs.Reading.{plain}
use Rattle.reading.specs.Uses.{line_reads}
use Rattle.calls.specs.LeavesOf.{parsed_of, context_of, is_call, is_control_line, starts_below, blocks_by, leaves_of}
use Rattle.calls.specs.Calls.{rebuild_calls}

-- `r2 = console; LF r3 = g("w"); LF r2.log(r3);` gives `console.log(g("w"));`
-- `r1 = f(x); LF r2 = new r1(a);` gives `r2 = new (f(x))(a);`
-- `r1 = a + b; LF f(r1 * 2);` gives `f((a + b) * 2);`
-- `r1 = 1; LF f(r1.x);` gives `f((1).x);`
-- `r1 = a; LF var f = g(r1);` stays
-- `if (c) LF r1 = a; LF f(r1);` stays
-- `r1 = a; LF f(r1); LF g(r1);` stays
unfoldable pub table : List (List (List ℕ) × List (List ℕ))
table =
    ((114 ∷ 50 ∷ 32 ∷ 61 ∷ 32 ∷ 99 ∷ 111 ∷ 110 ∷ 115 ∷ 111 ∷ 108 ∷ 101 ∷ 59 ∷ []) ∷ (114 ∷ 51 ∷ 32 ∷ 61 ∷ 32 ∷ 103 ∷ 40 ∷ 34 ∷ 119 ∷ 34 ∷ 41 ∷ 59 ∷ []) ∷ (114 ∷ 50 ∷ 46 ∷ 108 ∷ 111 ∷ 103 ∷ 40 ∷ 114 ∷ 51 ∷ 41 ∷ 59 ∷ []) ∷ [], (99 ∷ 111 ∷ 110 ∷ 115 ∷ 111 ∷ 108 ∷ 101 ∷ 46 ∷ 108 ∷ 111 ∷ 103 ∷ 40 ∷ 103 ∷ 40 ∷ 34 ∷ 119 ∷ 34 ∷ 41 ∷ 41 ∷ 59 ∷ []) ∷ [])
    ∷ ((114 ∷ 49 ∷ 32 ∷ 61 ∷ 32 ∷ 102 ∷ 40 ∷ 120 ∷ 41 ∷ 59 ∷ []) ∷ (114 ∷ 50 ∷ 32 ∷ 61 ∷ 32 ∷ 110 ∷ 101 ∷ 119 ∷ 32 ∷ 114 ∷ 49 ∷ 40 ∷ 97 ∷ 41 ∷ 59 ∷ []) ∷ [], (114 ∷ 50 ∷ 32 ∷ 61 ∷ 32 ∷ 110 ∷ 101 ∷ 119 ∷ 32 ∷ 40 ∷ 102 ∷ 40 ∷ 120 ∷ 41 ∷ 41 ∷ 40 ∷ 97 ∷ 41 ∷ 59 ∷ []) ∷ [])
    ∷ ((114 ∷ 49 ∷ 32 ∷ 61 ∷ 32 ∷ 97 ∷ 32 ∷ 43 ∷ 32 ∷ 98 ∷ 59 ∷ []) ∷ (102 ∷ 40 ∷ 114 ∷ 49 ∷ 32 ∷ 42 ∷ 32 ∷ 50 ∷ 41 ∷ 59 ∷ []) ∷ [], (102 ∷ 40 ∷ 40 ∷ 97 ∷ 32 ∷ 43 ∷ 32 ∷ 98 ∷ 41 ∷ 32 ∷ 42 ∷ 32 ∷ 50 ∷ 41 ∷ 59 ∷ []) ∷ [])
    ∷ ((114 ∷ 49 ∷ 32 ∷ 61 ∷ 32 ∷ 49 ∷ 59 ∷ []) ∷ (102 ∷ 40 ∷ 114 ∷ 49 ∷ 46 ∷ 120 ∷ 41 ∷ 59 ∷ []) ∷ [], (102 ∷ 40 ∷ 40 ∷ 49 ∷ 41 ∷ 46 ∷ 120 ∷ 41 ∷ 59 ∷ []) ∷ [])
    ∷ ((114 ∷ 49 ∷ 32 ∷ 61 ∷ 32 ∷ 97 ∷ 59 ∷ []) ∷ (118 ∷ 97 ∷ 114 ∷ 32 ∷ 102 ∷ 32 ∷ 61 ∷ 32 ∷ 103 ∷ 40 ∷ 114 ∷ 49 ∷ 41 ∷ 59 ∷ []) ∷ [], (114 ∷ 49 ∷ 32 ∷ 61 ∷ 32 ∷ 97 ∷ 59 ∷ []) ∷ (118 ∷ 97 ∷ 114 ∷ 32 ∷ 102 ∷ 32 ∷ 61 ∷ 32 ∷ 103 ∷ 40 ∷ 114 ∷ 49 ∷ 41 ∷ 59 ∷ []) ∷ [])
    ∷ ((105 ∷ 102 ∷ 32 ∷ 40 ∷ 99 ∷ 41 ∷ []) ∷ (114 ∷ 49 ∷ 32 ∷ 61 ∷ 32 ∷ 97 ∷ 59 ∷ []) ∷ (102 ∷ 40 ∷ 114 ∷ 49 ∷ 41 ∷ 59 ∷ []) ∷ [], (105 ∷ 102 ∷ 32 ∷ 40 ∷ 99 ∷ 41 ∷ []) ∷ (114 ∷ 49 ∷ 32 ∷ 61 ∷ 32 ∷ 97 ∷ 59 ∷ []) ∷ (102 ∷ 40 ∷ 114 ∷ 49 ∷ 41 ∷ 59 ∷ []) ∷ [])
    ∷ ((114 ∷ 49 ∷ 32 ∷ 61 ∷ 32 ∷ 97 ∷ 59 ∷ []) ∷ (102 ∷ 40 ∷ 114 ∷ 49 ∷ 41 ∷ 59 ∷ []) ∷ (103 ∷ 40 ∷ 114 ∷ 49 ∷ 41 ∷ 59 ∷ []) ∷ [], (114 ∷ 49 ∷ 32 ∷ 61 ∷ 32 ∷ 97 ∷ 59 ∷ []) ∷ (102 ∷ 40 ∷ 114 ∷ 49 ∷ 41 ∷ 59 ∷ []) ∷ (103 ∷ 40 ∷ 114 ∷ 49 ∷ 41 ∷ 59 ∷ []) ∷ [])
    ∷ []

pub tidies : map (λ (p : List (List ℕ) × List (List ℕ)). rebuild_calls (leaves_of plain) p.0) table ≡ map (λ (p : List (List ℕ) × List (List ℕ)). p.1) table
unfolding table rebuild_calls parsed_of context_of is_call is_control_line starts_below blocks_by up_to prefixed suffixed same holds cut_on parts_of is_white seq_len white_char white_head white_tail lead from_of end_white to_of trim_of numbered read_number decimal_by decimal reg_of is_ident all_regs is_decl store_in parse_of text_of runs_go runs count_by hits_go hits one_hit reg_hit after_new as_target glue_left glue_right glued replaced_at replace_reg quote_len pattern_len comment_len last_of token_of lex_go strip_lexical words_in is_header brace_of push count top stack_after next_after blocks_go blocks cleaned starts_after starts_above is_control all_idents is_plain_ref bare_go primary bare paren_if_needed writes_any writes breaks_with breaks line_reads
tidies = refl
