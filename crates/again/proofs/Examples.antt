-- Texts that prune_decls is run over twice, and what joining and splitting lose, as two tables. Assumes nothing.
use Prim.Native.Nat.{ℕ}
use Prim.Native.String.{String}
use mathlib.Core.Path.{◌≡◌, refl}
use mathlib.Core.Bool.{Bool, true, false}
use mathlib.Core.List.{List, [], ◌∷◌, map}
use Rattle.lines.specs.Lf.{up_to, cut_on, lines_of, parts_of, prefixed}
use Rattle.lines.specs.Acts.{act, apply}
use Rattle.lines.specs.Steps.{drop_cr, split_lines, join_lines, settle, joined}
use Rattle.text.specs.White.{is_white}
use Rattle.text.specs.Utf8Form.{seq_len}
use Rattle.text.specs.Trim.{white_char, white_head, white_tail, lead, from_of, end_white, to_of, trim_of}
use Rattle.names.specs.Names.{numbered, read_number, decimal_by, decimal, reg_of}
use Rattle.parse.specs.Parse.{all_regs, is_decl, store_in, parse_of, text_of}
use Rattle.words.specs.Runs.{runs_go, runs, count_by}
use Rattle.place.specs.Region.{is_header, until_header, region, region_at}
use Rattle.reading.specs.Uses.{line_reads, line_stores, line_uses, used_in}
use Rattle.decls.specs.Decls.{commas, decl_act, keep_names, act_of, acts_go, prune_decls_acts, prune_decls}
use Rattle.lines.specs.Ascii.{ascii}
use Rattle.again.specs.Shed.{uncr, shed_rest, lone, shed, prune_text}

-- ---- a text, what the first run writes, and what a second run writes of that

pub record Row : Type 0 where
  pub text : List ℕ
  pub once : List ℕ
  pub twice : List ℕ

abbrev pub row : String → String → String → Row
row t o w = record { text = ascii t; once = ascii o; twice = ascii w }

-- first a removed `let r0;` at column zero, which makes one region of two; then the two losses; then no line, and one blank line
unfoldable pub rows : List Row
rows =
    row
    "var x;\n  let r1, r2;\n  use(r1);\nlet r0;\n  use(r2);\n"
    "var x;\n  let r1;\n  use(r1);\n  use(r2);\n"
    "var x;\n  let r1;\n  use(r1);\n  use(r2);\n"
    ∷ row "a\r\r\r\nb" "a\r\r\nb" "a\r\nb"
    ∷ row "a\n\n\n\n" "a\n\n\n" "a\n\n"
    ∷ row "a\n\nlet r0;" "a\n" "a\n"
    ∷ row "let r0;\n" "\n" "\n"
    ∷ row "let r0;" "" ""
    ∷ row "\n" "\n" "\n"
    ∷ []

abbrev pub ran : Row → List ℕ × List ℕ
ran r = (prune_text r.text, prune_text r.once)

abbrev pub written : Row → List ℕ × List ℕ
written r = (r.once, r.twice)

pub twice-run : map ran rows ≡ map written rows
unfolding rows seq_len is_white white_char white_head white_tail lead from_of end_white to_of trim_of numbered read_number decimal_by decimal reg_of up_to cut_on lines_of parts_of prefixed all_regs is_decl store_in parse_of text_of runs_go runs count_by line_reads line_stores line_uses used_in act apply is_header until_header region region_at commas decl_act keep_names act_of acts_go prune_decls_acts prune_decls drop_cr split_lines join_lines settle joined
twice-run = refl

-- ---- lines, and what comes back of them where they are joined and split again

pub record Back : Type 0 where
  pub ended : Bool
  pub lines : List (List ℕ)
  pub back : List (List ℕ)

abbrev pub comes : Bool → List (List ℕ) → List (List ℕ) → Back
comes e ls ms = record { ended = e; lines = ls; back = ms }

-- no line and one blank line are the exceptions; then a CR, which the last line keeps where no LF follows; then a last blank line
unfoldable pub backs : List Back
backs =
    comes true [] ([] ∷ [])
    ∷ comes false [] []
    ∷ comes true ([] ∷ []) ([] ∷ [])
    ∷ comes false ([] ∷ []) []
    ∷ comes true (ascii "a\r" ∷ ascii "b\r\r" ∷ []) (ascii "a" ∷ ascii "b\r" ∷ [])
    ∷ comes false (ascii "a\r" ∷ ascii "b\r\r" ∷ []) (ascii "a" ∷ ascii "b\r\r" ∷ [])
    ∷ comes true (ascii "a" ∷ [] ∷ [] ∷ []) (ascii "a" ∷ [] ∷ [])
    ∷ comes false (ascii "a" ∷ [] ∷ [] ∷ []) (ascii "a" ∷ [] ∷ [])
    ∷ []

-- splitting what was joined, and `shed`, which says the same without a text
abbrev pub lost : Back → List (List ℕ) × List (List ℕ)
lost b = (split_lines (joined b.ended b.lines), shed b.ended b.lines)

abbrev pub left : Back → List (List ℕ) × List (List ℕ)
left b = (b.back, b.back)

pub back-split : map lost backs ≡ map left backs
unfolding backs prefixed lines_of drop_cr split_lines join_lines settle joined uncr shed_rest lone shed
back-split = refl
