-- Worked examples, as one table. Assumes nothing.
use Prim.Native.Nat.{ℕ}
use mathlib.Core.Path.{◌≡◌, refl}
use mathlib.Core.Bool.{true}
use mathlib.Core.List.{List, [], ◌∷◌, map}
use Rattle.lines.specs.Lf.{count_of, prefixed, suffixed, same, holds}
use Rattle.text.specs.White.{is_white}
use Rattle.text.specs.Utf8Form.{seq_len}
use Rattle.text.specs.Trim.{white_char, white_head, white_tail, lead, from_of, end_white, to_of, trim_of}
use Rattle.lexical.specs.Lex.{quote_len, pattern_len, comment_len, last_of, token_of, lex_go, strip_lexical}
use Rattle.place.specs.Region.{is_header}
use Rattle.place.specs.Inner.Region.{regions_go, regions}
use Rattle.place.specs.Blocks.{brace_of, push, count, top, stack_after, next_after, blocks_go, blocks, cleaned}
use Rattle.place.specs.Inner.Blocks.{block_ids}
use Rattle.place.specs.Paths.{path_closes, path_after, path_next, paths_go, block_paths, tops}
use Rattle.place.specs.Loops.{opens_loop, any_loop, loops_after, loops_go, inside_loop}
use Rattle.place.specs.Starts.{starts_after, starts_go}
use Rattle.place.specs.Inner.Fill.{flags_of}

-- lines, and for each its region, its block, the innermost block of its path, whether it stands in a loop, and whether it may begin a statement
pub record Row : Type 0 where
  pub lines : List (List ℕ)
  pub by-region : List ℕ
  pub by-block : List ℕ
  pub by-path : List ℕ
  pub by_loop : List ℕ
  pub by-start : List ℕ

-- `if (x) {`, `} else {`, `}`, `y;`: in `block_paths` the second line closes no block
unfoldable pub row1 : Row
row1 =
    record {
      lines = (105 ∷ 102 ∷ 32 ∷ 40 ∷ 120 ∷ 41 ∷ 32 ∷ 123 ∷ []) ∷ (125 ∷ 32 ∷ 101 ∷ 108 ∷ 115 ∷ 101 ∷ 32 ∷ 123 ∷ []) ∷ (125 ∷ []) ∷ (121 ∷ 59 ∷ []) ∷ [];
      by-region = 0 ∷ 0 ∷ 0 ∷ 0 ∷ [];
      by-block = 0 ∷ 1 ∷ 2 ∷ 0 ∷ [];
      by-path = 0 ∷ 1 ∷ 1 ∷ 1 ∷ [];
      by_loop = 0 ∷ 0 ∷ 0 ∷ 0 ∷ [];
      by-start = 1 ∷ 1 ∷ 1 ∷ 1 ∷ [];
    }

-- `{`, `a = "}";`, `}`, `b`, an empty line, `c`: the `}` in the string is none for `block_ids`, and the empty line begins no statement that `b` did not end
unfoldable pub row2 : Row
row2 =
    record {
      lines = (123 ∷ []) ∷ (97 ∷ 32 ∷ 61 ∷ 32 ∷ 34 ∷ 125 ∷ 34 ∷ 59 ∷ []) ∷ (125 ∷ []) ∷ (98 ∷ []) ∷ [] ∷ (99 ∷ []) ∷ [];
      by-region = 0 ∷ 0 ∷ 0 ∷ 0 ∷ 0 ∷ 0 ∷ [];
      by-block = 0 ∷ 1 ∷ 1 ∷ 0 ∷ 0 ∷ 0 ∷ [];
      by-path = 0 ∷ 1 ∷ 0 ∷ 0 ∷ 0 ∷ 0 ∷ [];
      by_loop = 0 ∷ 0 ∷ 0 ∷ 0 ∷ 0 ∷ 0 ∷ [];
      by-start = 1 ∷ 1 ∷ 1 ∷ 1 ∷ 0 ∷ 0 ∷ [];
    }

-- `do {`, `if (a) {`, `}`, `} while (y);`, `z`: the loop ends at its own brace
unfoldable pub row3 : Row
row3 =
    record {
      lines = (100 ∷ 111 ∷ 32 ∷ 123 ∷ []) ∷ (105 ∷ 102 ∷ 32 ∷ 40 ∷ 97 ∷ 41 ∷ 32 ∷ 123 ∷ []) ∷ (125 ∷ []) ∷ (125 ∷ 32 ∷ 119 ∷ 104 ∷ 105 ∷ 108 ∷ 101 ∷ 32 ∷ 40 ∷ 121 ∷ 41 ∷ 59 ∷ []) ∷ (122 ∷ []) ∷ [];
      by-region = 0 ∷ 0 ∷ 0 ∷ 0 ∷ 0 ∷ [];
      by-block = 0 ∷ 1 ∷ 2 ∷ 1 ∷ 0 ∷ [];
      by-path = 0 ∷ 1 ∷ 1 ∷ 0 ∷ 0 ∷ [];
      by_loop = 0 ∷ 1 ∷ 1 ∷ 1 ∷ 0 ∷ [];
      by-start = 1 ∷ 1 ∷ 1 ∷ 1 ∷ 1 ∷ [];
    }

-- `let phi0;`, `let r0;`, ` let r0;`: the second is a header, and no other
unfoldable pub row4 : Row
row4 =
    record {
      lines = (108 ∷ 101 ∷ 116 ∷ 32 ∷ 112 ∷ 104 ∷ 105 ∷ 48 ∷ 59 ∷ []) ∷ (108 ∷ 101 ∷ 116 ∷ 32 ∷ 114 ∷ 48 ∷ 59 ∷ []) ∷ (32 ∷ 108 ∷ 101 ∷ 116 ∷ 32 ∷ 114 ∷ 48 ∷ 59 ∷ []) ∷ [];
      by-region = 0 ∷ 1 ∷ 1 ∷ [];
      by-block = 0 ∷ 0 ∷ 0 ∷ [];
      by-path = 0 ∷ 0 ∷ 0 ∷ [];
      by_loop = 0 ∷ 0 ∷ 0 ∷ [];
      by-start = 1 ∷ 1 ∷ 1 ∷ [];
    }

unfoldable pub rows : List Row
unfolding row1 row2 row3 row4
rows = row1 ∷ row2 ∷ row3 ∷ row4 ∷ []

-- what the definitions say of the lines of a row
abbrev pub said : Row → Row
said r = record {
  lines = r.lines;
  by-region = regions r.lines;
  by-block = block_ids r.lines;
  by-path = tops (block_paths r.lines);
  by_loop = flags_of (inside_loop r.lines);
  by-start = flags_of (starts_go (cleaned r.lines) true);
}

pub examples : map said rows ≡ rows
unfolding rows count_of prefixed suffixed same holds is_white seq_len white_char white_head white_tail lead from_of end_white to_of trim_of quote_len pattern_len comment_len last_of token_of lex_go strip_lexical is_header regions_go regions brace_of push count top stack_after next_after blocks_go blocks cleaned path_closes path_after path_next paths_go block_paths tops opens_loop any_loop loops_after loops_go inside_loop starts_after starts_go flags_of
examples = refl
