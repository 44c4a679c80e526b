-- A listing, from text to text. Assumes nothing.
use Prim.Native.Nat.{ℕ}
use mathlib.Core.Path.{◌≡◌, refl}
use mathlib.Core.List.{List, [], ◌∷◌}
use Rattle.lines.specs.Lf.{up_to, cut_on, lines_of, parts_of, unlines, prefixed}
use Rattle.lines.specs.Acts.{act, apply}
use Rattle.text.specs.White.{is_white}
use Rattle.text.specs.Utf8Form.{seq_len}
use Rattle.text.specs.Trim.{white_char, white_head, white_tail, lead, from_of, end_white, to_of, trim_of}
use Rattle.names.specs.Names.{numbered, read_number, decimal_by, decimal, reg_of}
use Rattle.parse.specs.Parse.{all_regs, is_decl, store_in, parse_of, text_of}
use Rattle.words.specs.Runs.{runs_go, runs, count_by}
use Rattle.place.specs.Region.{is_header, until_header, region, region_at}
use Rattle.reading.specs.Uses.{line_reads, line_stores, line_uses, used_in}
use Rattle.decls.specs.Decls.{commas, decl_act, keep_names, act_of, acts_go, prune_decls_acts, prune_decls}

-- `function f() {`, `  let r007, r1,r2;`, `  r1 = r7;`, `}`, `let r0;`, `  let r2;`, `use(r2);`, U+3000 `let r00;`, `let r5,;`
unfoldable pub given : List ℕ
given = 102 ∷ 117 ∷ 110 ∷ 99 ∷ 116 ∷ 105 ∷ 111 ∷ 110 ∷ 32 ∷ 102 ∷ 40 ∷ 41 ∷ 32 ∷ 123 ∷ 10 ∷ 32 ∷ 32 ∷ 108 ∷ 101 ∷ 116 ∷ 32 ∷ 114 ∷ 48 ∷ 48 ∷ 55 ∷ 44 ∷ 32 ∷ 114 ∷ 49 ∷ 44 ∷ 114 ∷ 50 ∷ 59 ∷ 10 ∷ 32 ∷ 32 ∷ 114 ∷ 49 ∷ 32 ∷ 61 ∷ 32 ∷ 114 ∷ 55 ∷ 59 ∷ 10 ∷ 125 ∷ 10 ∷ 108 ∷ 101 ∷ 116 ∷ 32 ∷ 114 ∷ 48 ∷ 59 ∷ 10 ∷ 32 ∷ 32 ∷ 108 ∷ 101 ∷ 116 ∷ 32 ∷ 114 ∷ 50 ∷ 59 ∷ 10 ∷ 117 ∷ 115 ∷ 101 ∷ 40 ∷ 114 ∷ 50 ∷ 41 ∷ 59 ∷ 10 ∷ 227 ∷ 128 ∷ 128 ∷ 108 ∷ 101 ∷ 116 ∷ 32 ∷ 114 ∷ 48 ∷ 48 ∷ 59 ∷ 10 ∷ 108 ∷ 101 ∷ 116 ∷ 32 ∷ 114 ∷ 53 ∷ 44 ∷ 59 ∷ 10 ∷ []

-- `function f() {`, `  let r7, r1;`, `  r1 = r7;`, `}`, `  let r2;`, `use(r2);`, `let r5,;`
unfoldable pub wanted : List ℕ
wanted = 102 ∷ 117 ∷ 110 ∷ 99 ∷ 116 ∷ 105 ∷ 111 ∷ 110 ∷ 32 ∷ 102 ∷ 40 ∷ 41 ∷ 32 ∷ 123 ∷ 10 ∷ 32 ∷ 32 ∷ 108 ∷ 101 ∷ 116 ∷ 32 ∷ 114 ∷ 55 ∷ 44 ∷ 32 ∷ 114 ∷ 49 ∷ 59 ∷ 10 ∷ 32 ∷ 32 ∷ 114 ∷ 49 ∷ 32 ∷ 61 ∷ 32 ∷ 114 ∷ 55 ∷ 59 ∷ 10 ∷ 125 ∷ 10 ∷ 32 ∷ 32 ∷ 108 ∷ 101 ∷ 116 ∷ 32 ∷ 114 ∷ 50 ∷ 59 ∷ 10 ∷ 117 ∷ 115 ∷ 101 ∷ 40 ∷ 114 ∷ 50 ∷ 41 ∷ 59 ∷ 10 ∷ 108 ∷ 101 ∷ 116 ∷ 32 ∷ 114 ∷ 53 ∷ 44 ∷ 59 ∷ 10 ∷ []

pub pruned : unlines (prune_decls (lines_of given)) ≡ wanted
unfolding given wanted seq_len is_white white_char white_head white_tail lead from_of end_white to_of trim_of numbered read_number decimal_by decimal reg_of up_to cut_on lines_of parts_of unlines prefixed all_regs is_decl store_in parse_of text_of runs_go runs count_by line_reads line_stores line_uses used_in act apply is_header until_header region region_at commas decl_act keep_names act_of acts_go prune_decls_acts prune_decls
pruned = refl
