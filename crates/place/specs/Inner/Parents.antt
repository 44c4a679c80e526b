-- The open blocks by a table of parents, whatever braces of a line count: entry k is the block around block k + 1. The table is only added to.
-- Assumes nothing.
use Rattle.std.specs.Prelude.{ℕ, zero, suc, ◌≤◌, ◌<◌, ◌^◌, ◌≡◌, cond, List, [], ◌∷◌, ◌++◌, length, take, get_or, replicate}
use Prim.Native.Char.{code}
use Rattle.lines.specs.Lf.{ends_in}
use Rattle.text.specs.Trim.{trim_of}
use Rattle.lexical.specs.Lex.{strip_lexical}
use Rattle.place.specs.Blocks.{Brace, opens, closes, neither, brace_of}
use Rattle.place.specs.Paths.{path_closes}
use Rattle.place.specs.Inner.Fill.{Filled}

-- the block around a block; 0, outside all, is around itself
unfoldable pub around : ℕ → List ℕ → ℕ
around zero ups = 0
around (suc k) ups = get_or ups k 0

-- the open block after a brace, where the block c is open
unfoldable pub cur_at : Brace → ℕ → List ℕ → ℕ
unfolding around
cur_at opens c ups = suc (length ups)
cur_at closes c ups = around c ups
cur_at neither c ups = c

-- the table after a brace
unfoldable pub ups_at : Brace → ℕ → List ℕ → List ℕ
ups_at opens c ups = ups ++ c ∷ []
ups_at closes c ups = ups
ups_at neither c ups = ups

-- the open block after several braces
unfoldable pub cur_by : List Brace → ℕ → List ℕ → ℕ
unfolding cur_at ups_at
cur_by [] c ups = c
cur_by (b ∷ bs) c ups = cur_by bs (cur_at b c ups) (ups_at b c ups)

-- the table after several braces
unfoldable pub ups_by : List Brace → ℕ → List ℕ → List ℕ
unfolding cur_at ups_at
ups_by [] c ups = ups
ups_by (b ∷ bs) c ups = ups_by bs (cur_at b c ups) (ups_at b c ups)

-- ---- the table in lent room

-- there is room for what some braces add to the first n entries of u; the entries are 32 bits wide
pub record Room (bs : List Brace) (c : ℕ) (u : List ℕ) (n : ℕ) : Type 0 where
  pub known : n ≤ length u
  pub fits : length (ups_by bs c (take n u)) ≤ length u
  pub small : length u < 2 ^ 32

-- u with its first n entries, where c was open, is u' with r after some braces, and the block b is open
pub record Moved (bs : List Brace) (c : ℕ) (u : List ℕ) (n b : ℕ) (u' : List ℕ) (r : ℕ) : Type 0 where
  pub cur : b ≡ cur_by bs c (take n u)
  pub filled : Filled u (ups_by bs c (take n u)) u' r

-- ---- how a line is read: the braces that count before its block is noted (pre), and after (post)

-- the block of each line
unfoldable pub notes_go : (List ℕ → List Brace) → (List ℕ → List Brace) → List (List ℕ) → ℕ → List ℕ → List ℕ
unfolding cur_by ups_by
notes_go pre post [] c ups = []
notes_go pre post (l ∷ ls) c ups =
    cur_by (pre l) c ups ∷ notes_go pre post ls (cur_by (pre l ++ post l) c ups) (ups_by (pre l ++ post l) c ups)

-- the braces of all lines
unfoldable pub flat : (List ℕ → List Brace) → (List ℕ → List Brace) → List (List ℕ) → List Brace
flat pre post [] = []
flat pre post (l ∷ ls) = (pre l ++ post l) ++ flat pre post ls

-- every brace of a text
unfoldable pub braces : List ℕ → List Brace
unfolding brace_of
braces [] = []
braces (x ∷ xs) = brace_of x ∷ braces xs

-- `block_ids`: no brace counts before a line is noted
abbrev pub ids_pre : List ℕ → List Brace
ids_pre l = []

-- and after it every brace of the cleaned line
unfoldable pub ids_post : List ℕ → List Brace
unfolding braces
ids_post l = braces (strip_lexical l)

-- `block_paths`: before a line is noted, the blocks that the trimmed line closes
unfoldable pub path_pre : List ℕ → List Brace
path_pre l = replicate (path_closes (trim_of l)) closes

-- the block that a trimmed line opens
unfoldable pub path_open : List ℕ → List Brace
path_open t = cond (ends_in (code "{") t) (opens ∷ []) []

-- and after it the block that the trimmed line opens
unfoldable pub path_post : List ℕ → List Brace
unfolding path_open
path_post l = path_open (trim_of l)

-- the table of parents that `block_ids` leaves
unfoldable pub ids_parents : List (List ℕ) → List ℕ
unfolding flat ups_by ids_post
ids_parents ls = ups_by (flat ids_pre ids_post ls) 0 []

-- the table of parents that `block_paths` leaves
unfoldable pub path_parents : List (List ℕ) → List ℕ
unfolding flat ups_by path_pre path_post
path_parents ls = ups_by (flat path_pre path_post ls) 0 []
