-- The index of a region, two tables over registers: which of them its declarations name, and where it stores them first. own says where the entries
-- of high registers stand. Assumes nothing.
use Rattle.std.specs.Prelude.{ℕ, suc, ◌+◌, ◌-◌, ◌≤◌, ◌<◌, ◌≡◌, Bool, true, cond, ◌&&◌, List, [], ◌∷◌, eqb, ltb, length, get_or}
use Rattle.lines.specs.Lf.{part, lines_of}
use Rattle.text.specs.Trim.{trim_of}
use Rattle.names.specs.Names.{reg_of}
use Rattle.std.specs.declared.option.Option.{Option}
use Rattle.names.specs.declared.Register.{Register}
use Rattle.std.specs.declared.option.Option.TheVariants.{Some, None}
use Rattle.parse.specs.Parse.{is_decl, parse_of, text_of}
use Rattle.parse.specs.declared.Line.{Line}
use Rattle.parse.specs.declared.Line.TheVariants as line
use Rattle.words.specs.Runs.{runs}
use Rattle.slots.specs.Inner.Slots.{slot_of, entry_of, with_entry}
use Rattle.decls.specs.Inner.Seen.{mark_name}
use Rattle.bind.specs.declared.Site.{Site}
use Rattle.bind.specs.Bind.{pieces_of}
use Rattle.bind.specs.Inner.Steps.{below_of, bound_at, mark_row, Reach}

-- ---- first stores: an entry below b is none of this region, and b stands for a register that is stored again, or read before it is stored

-- the entry x of a register after a line that stores it, where c is one more than the row of the line
abbrev pub after_store : ℕ → ℕ → ℕ → ℕ
after_store b c x = cond (ltb x b) c b

-- after a line that reads it
abbrev pub after_read : ℕ → ℕ → ℕ
after_read b x = cond (ltb x b) b x

-- the table u after a read of the register that a name is
abbrev pub read_name : List ℕ → ℕ → Option Register → List ℕ → List ℕ
read_name own b None u = u
read_name own b (Some q) u = with_entry own q.0 (after_read b (entry_of own q.0 u)) u

-- after the reads of the registers that runs name
unfoldable pub read_runs : List ℕ → ℕ → List (List ℕ) → List ℕ → List ℕ
read_runs own b [] u = u
read_runs own b (r ∷ rs) u = read_runs own b rs (read_name own b (reg_of r) u)

-- after the store of a line
abbrev pub store_line : List ℕ → ℕ → ℕ → Line → List ℕ → List ℕ
store_line own b c line.Decl u = u
store_line own b c (line.Store s) u = with_entry own s.reg.0 (after_store b c (entry_of own s.reg.0 u)) u
store_line own b c line.Other u = u

-- after a line
unfoldable pub use_line : List ℕ → ℕ → ℕ → List ℕ → List ℕ → List ℕ
unfolding read_runs
use_line own b c l u = read_runs own b (runs (text_of l (parse_of l))) (store_line own b c (parse_of l) u)

-- after lines, of which the first has the row k
unfoldable pub use_lines : List ℕ → ℕ → ℕ → List (List ℕ) → List ℕ → List ℕ
unfolding use_line
use_lines own b k [] u = u
use_lines own b k (l ∷ ls) u = use_lines own b (k + 1) ls (use_line own b (k + 1) l u)

-- ---- declarations: a register that is named has the entry m in d, and where it is named again, b in u

-- the table u after register v
abbrev pub again_reg : List ℕ → ℕ → ℕ → ℕ → List ℕ → List ℕ → List ℕ
again_reg own m b v d u = cond (ltb (entry_of own v d) m) u (with_entry own v b u)

-- after a name
abbrev pub again_name : List ℕ → ℕ → ℕ → Option Register → List ℕ → List ℕ → List ℕ
again_name own m b None d u = u
again_name own m b (Some q) d u = again_reg own m b q.0 d u

-- the table d after pieces
unfoldable pub seen_pieces : List ℕ → ℕ → List (List ℕ) → List ℕ → List ℕ
seen_pieces own m [] d = d
seen_pieces own m (p ∷ ps) d = seen_pieces own m ps (mark_name own m (reg_of (trim_of p)) d)

-- and u
unfoldable pub again_pieces : List ℕ → ℕ → ℕ → List (List ℕ) → List ℕ → List ℕ → List ℕ
again_pieces own m b [] d u = u
again_pieces own m b (p ∷ ps) d u = again_pieces own m b ps (mark_name own m (reg_of (trim_of p)) d) (again_name own m b (reg_of (trim_of p)) d u)

-- the table d after the declarations among lines
unfoldable pub seen_lines : List ℕ → ℕ → List (List ℕ) → List ℕ → List ℕ
unfolding seen_pieces pieces_of
seen_lines own m [] d = d
seen_lines own m (l ∷ ls) d = seen_lines own m ls (seen_pieces own m (pieces_of l) d)

-- and u
unfoldable pub again_lines : List ℕ → ℕ → ℕ → List (List ℕ) → List ℕ → List ℕ → List ℕ
unfolding seen_pieces again_pieces pieces_of
again_lines own m b [] d u = u
again_lines own m b (l ∷ ls) d u = again_lines own m b ls (seen_pieces own m (pieces_of l) d) (again_pieces own m b (pieces_of l) d u)

-- ---- the two tables after the line at i, in row k, of a region that goes from a to e: it is read where the region begins

unfoldable pub seen_at : List ℕ → List ℕ → ℕ → ℕ → ℕ → List ℕ → List ℕ
unfolding seen_lines
seen_at own t a i e d = cond (ltb a i) d (seen_lines own (a + 1) (lines_of (part a e t)) d)

unfoldable pub first_at : List ℕ → List ℕ → ℕ → ℕ → ℕ → ℕ → List ℕ → List ℕ → List ℕ
unfolding again_lines use_lines
first_at own t a i e k d u = cond (ltb a i) u (again_lines own (a + 1) (k + 1) (lines_of (part a e t)) d (use_lines own (k + 1) k (lines_of (part a e t)) u))

-- the same of a site
abbrev pub site_seen : List ℕ → List ℕ → Site → List ℕ → List ℕ
site_seen own t s d = seen_at own t s.top s.from s.end d

abbrev pub site_first : List ℕ → List ℕ → Site → List ℕ → List ℕ → List ℕ
site_first own t s d u = first_at own t s.top s.from s.end s.row d u

-- ---- what the tables say

-- a register is bound, by its entries x and y: the declaration stands in row k, and its region begins at a
unfoldable pub asked : List ℕ → List ℕ → ℕ → ℕ → ℕ → ℕ → Bool
asked bs ss a k x y = ltb a x && (ltb (k + 1) y && (eqb (get_or bs (y - 1) 0) (get_or bs k 0) && eqb (get_or ss (y - 1) 0) 1))

-- they say of each register that has a place in them whether it is bound, where the line s declares it, and then in which row it is stored
pub record Told (own t : List ℕ) (s : Site) (bs ss d u : List ℕ) : Type 0 where
  pub same : length d ≡ length u
  pub fits : (i : ℕ) → get_or u i 0 ≤ s.row + suc (length (below_of t s))
  pub says : (v : ℕ) → slot_of (length u) own v < length u → asked bs ss s.top s.row (entry_of own v d) (entry_of own v u) ≡ bound_at t s bs ss v
  pub block : s.block ≡ get_or bs s.row 0
  pub row : (v : ℕ) → slot_of (length u) own v < length u → bound_at t s bs ss v ≡ true → entry_of own v u ≡ suc (mark_row t s v)

-- and the tables reach far enough
abbrev pub Ready : List ℕ → List ℕ → Site → List ℕ → List ℕ → List ℕ → List ℕ → Type 0
Ready own t s bs ss d u = (Reach t s bs ss) × (Told own t s bs ss d u)

-- the same, but of a trimmed line l that is a declaration alone
abbrev pub ReadyFor : List ℕ → List ℕ → List ℕ → Site → List ℕ → List ℕ → List ℕ → List ℕ → Type 0
ReadyFor l own t s bs ss d u = (Reach t s bs ss) × (is_decl l ≡ true → Told own t s bs ss d u)
