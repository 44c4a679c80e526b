-- `bind_declarators`: a register that is declared once and stored once, with that store its first use, on a later line of its region and
-- block that starts a statement, leaves its declaration, and its store becomes one. Assumes nothing.
use Rattle.std.specs.Prelude.{ℕ, zero, suc, ◌+◌, Bool, true, false, cond, not, ◌&&◌, ◌||◌, List, [], ◌∷◌, ◌++◌, take, drop, eqb}
use Prim.Native.Char.{code}
use Rattle.lines.specs.Lf.{parts_of}
use Rattle.lines.specs.Acts.{Act, keep, become, apply}
use Rattle.text.specs.Trim.{from_of, trim_start, trim_of}
use Rattle.names.specs.Names.{reg_of, reg_is, reg_text}
use Rattle.std.specs.declared.option.Option.{Option}
use Rattle.names.specs.declared.Register.{Register}
use Rattle.std.specs.declared.option.Option.TheVariants.{Some, None}
use Rattle.parse.specs.Parse.{let_word, body_of, is_decl}
use Rattle.place.specs.Region.{is_header}
use Rattle.place.specs.Blocks.{blocks}
use Rattle.place.specs.Starts.{starts_go}
use Rattle.decls.specs.Decls.{decl_act}
use Rattle.reading.specs.Reading.{Reading}
use Rattle.reading.specs.Uses.{line_stores, line_uses, used_in}

-- a line with its block, and whether it may start a statement
pub record BlockLine : Type 0 where
  pub line : List ℕ
  pub block : ℕ
  pub starts : Bool

unfoldable pub block_lines_of : List (List ℕ) → List ℕ → List Bool → List BlockLine
block_lines_of [] bs ss = []
block_lines_of (l ∷ ls) [] ss = []
block_lines_of (l ∷ ls) (b ∷ bs) [] = []
block_lines_of (l ∷ ls) (b ∷ bs) (s ∷ ss) = record { line = l; block = b; starts = s } ∷ block_lines_of ls bs ss

-- the lines of a text, read by R
unfoldable pub block_lines : Reading → List (List ℕ) → List BlockLine
unfolding block_lines_of
block_lines R ls = block_lines_of ls (blocks (R.clean ls)) (starts_go (R.clean ls) true)

unfoldable pub lines_within : List BlockLine → List (List ℕ)
lines_within [] = []
lines_within (s ∷ ss) = s.line ∷ lines_within ss

-- those above the first header
unfoldable pub until_head : List BlockLine → List BlockLine
until_head [] = []
until_head (s ∷ ss) = cond (is_header s.line) [] (s ∷ until_head ss)

-- ---- counting

-- how many of the pieces of a declaration are register v
unfoldable pub piece_count : ℕ → List (List ℕ) → ℕ
piece_count v [] = 0
piece_count v (p ∷ ps) = cond (reg_is v (reg_of (trim_of p))) (suc (piece_count v ps)) (piece_count v ps)

-- how often lines declare register v
unfoldable pub decl_count : ℕ → List (List ℕ) → ℕ
unfolding piece_count
decl_count v [] = 0
decl_count v (l ∷ ls) = cond (is_decl (trim_of l)) (piece_count v (parts_of (code ",") (body_of (trim_of l)))) 0 + decl_count v ls

-- how often they store it
unfoldable pub store_count : ℕ → List (List ℕ) → ℕ
store_count v [] = 0
store_count v (l ∷ ls) = cond (line_stores v l) (suc (store_count v ls)) (store_count v ls)

-- ---- one declaration: `above` are the lines of its region above it, `below` the spots of its region below it, b its block

-- how many lines stand above the first that uses register v
unfoldable pub first_use : ℕ → List BlockLine → ℕ
first_use v [] = 0
first_use v (s ∷ ss) = cond (line_uses v s.line) 0 (suc (first_use v ss))

-- that line stores it, in block b, and starts a statement
abbrev pub store_at : ℕ → ℕ → List BlockLine → Bool
store_at v b [] = false
store_at v b (s ∷ ss) = line_stores v s.line && (eqb s.block b && s.starts)

-- register v is bound: one declaration in the region and one store, no use above, and the first use below is that store
unfoldable pub bound : ℕ → List (List ℕ) → BlockLine → List BlockLine → Bool
unfolding decl_count store_count first_use
bound v above d below =
    eqb (decl_count v above + (decl_count v (d.line ∷ []) + decl_count v (lines_within below))) 1
    && (eqb (store_count v above + store_count v (lines_within below)) 1
    && (not (used_in v above) && store_at v d.block (drop (first_use v below) below)))

-- a test of the register that a piece names
abbrev pub bound_by : Option Register → List (List ℕ) → BlockLine → List BlockLine → Bool
bound_by None above d below = false
bound_by (Some q) above d below = bound q.0 above d below

-- some piece is bound
unfoldable pub any_bound : List (List ℕ) → List (List ℕ) → BlockLine → List BlockLine → Bool
any_bound [] above d below = false
any_bound (p ∷ ps) above d below = bound_by (reg_of (trim_of p)) above d below || any_bound ps above d below

-- the names that stay, as they are printed
abbrev pub unbound_one : Option Register → List (List ℕ) → BlockLine → List BlockLine → List (List ℕ)
unbound_one None above d below = []
unbound_one (Some q) above d below = cond (bound q.0 above d below) [] (reg_text q.0 ∷ [])

unfoldable pub unbound : List (List ℕ) → List (List ℕ) → BlockLine → List BlockLine → List (List ℕ)
unbound [] above d below = []
unbound (p ∷ ps) above d below = unbound_one (reg_of (trim_of p)) above d below ++ unbound ps above d below

-- ---- marks: which of the lines to come are to be promoted

unfoldable pub mark : ℕ → List Bool → List Bool
mark zero [] = true ∷ []
mark zero (m ∷ ms) = true ∷ ms
mark (suc n) [] = false ∷ mark n []
mark (suc n) (m ∷ ms) = m ∷ mark n ms

abbrev pub mark_one : Option Register → List (List ℕ) → BlockLine → List BlockLine → List Bool → List Bool
mark_one None above d below ms = ms
mark_one (Some q) above d below ms = cond (bound q.0 above d below) (mark (first_use q.0 below) ms) ms

unfoldable pub mark_all : List (List ℕ) → List (List ℕ) → BlockLine → List BlockLine → List Bool → List Bool
unfolding mark
mark_all [] above d below ms = ms
mark_all (p ∷ ps) above d below ms = mark_all ps above d below (mark_one (reg_of (trim_of p)) above d below ms)

abbrev pub marked : List Bool → Bool
marked [] = false
marked (m ∷ ms) = m

-- ---- the pass

-- the pieces of a declaration; none of any other line
unfoldable pub pieces_of : List ℕ → List (List ℕ)
pieces_of l = cond (is_decl (trim_of l)) (parts_of (code ",") (body_of (trim_of l))) []

-- a store as a declaration: its indent, `let ` and the rest of it
abbrev pub promoted : List ℕ → List ℕ
promoted l = take (from_of l) l ++ let_word ++ trim_start l

-- what becomes of a line; m says whether it is marked. A declaration of which nothing is bound stays as it is
unfoldable pub bind_act : BlockLine → List (List ℕ) → List BlockLine → Bool → Act
unfolding any_bound unbound decl_act
bind_act d above below m =
    cond (any_bound (pieces_of d.line) above d below)
    (decl_act (take (from_of d.line) d.line) (unbound (pieces_of d.line) above d below))
    (cond m (become (promoted d.line)) keep)

-- the lines of the region above a line, the nearest first: none above a header
abbrev pub above_in : BlockLine → List (List ℕ) → List (List ℕ)
above_in d above = cond (is_header d.line) [] above

unfoldable pub bind_go : List BlockLine → List (List ℕ) → List Bool → List Act
unfolding bind_act mark_all pieces_of until_head
bind_go [] above ms = []
bind_go (d ∷ ss) above ms =
    bind_act d (above_in d above) (until_head ss) (marked ms)
    ∷ bind_go ss (d.line ∷ above_in d above) (mark_all (pieces_of d.line) (above_in d above) d (until_head ss) (drop 1 ms))

unfoldable pub bind_declarators_acts : Reading → List (List ℕ) → List Act
unfolding bind_go block_lines
bind_declarators_acts R ls = bind_go (block_lines R ls) [] []

unfoldable pub bind_declarators : Reading → List (List ℕ) → List (List ℕ)
unfolding bind_declarators_acts apply
bind_declarators R ls = apply (bind_declarators_acts R ls) ls
