-- `bind_declarators` as its code goes: a region by parts of the text, blocks and starts by tables, marks in a table. Assumes nothing.
use Rattle.std.specs.Prelude.{ℕ, suc, ◌+◌, ◌≤◌, Bool, false, cond, not, ◌&&◌, ◌||◌, List, [], ◌∷◌, ◌++◌, get_or, set, length, take, drop, eqb}
use Prim.Native.Char.{code}
use Rattle.lines.specs.Ascii.{ascii}
use Rattle.lines.specs.Lf.{part, lines_of, parts_of}
use Rattle.lines.specs.Acts.{Act, keep, become, into, gone}
use Rattle.origins.specs.Inner.Codes.{far_move}
use Rattle.text.specs.Trim.{from_of, trim_of}
use Rattle.names.specs.Names.{reg_of}
use Rattle.std.specs.declared.option.Option.{Option}
use Rattle.names.specs.declared.Register.{Register}
use Rattle.std.specs.declared.option.Option.TheVariants.{Some, None}
use Rattle.parse.specs.Parse.{body_of, is_decl}
use Rattle.decls.specs.Inner.Print.{kept, decl_text}
use Rattle.reading.specs.Reading.{Reading}
use Rattle.reading.specs.Uses.{line_stores, line_uses, used_in}
use Rattle.bind.specs.declared.Site.{Site}
use Rattle.bind.specs.Bind.{BlockLine, block_lines, until_head, decl_count, store_count, mark_all, marked, pieces_of, above_in, promoted, bind_act}

-- ---- a line and its region

-- the lines of the region above a line
abbrev pub above_of : List ℕ → Site → List (List ℕ)
above_of t s = lines_of (part s.top s.from t)

-- the line
abbrev pub line_of : List ℕ → Site → List ℕ
line_of t s = part s.from s.to t

-- the lines of the region below it
abbrev pub below_of : List ℕ → Site → List (List ℕ)
below_of t s = lines_of (part s.next s.end t)

-- ---- a register

-- how many lines stand above the first that uses register v
unfoldable pub use_row : ℕ → List (List ℕ) → ℕ
use_row v [] = 0
use_row v (l ∷ ls) = cond (line_uses v l) 0 (suc (use_row v ls))

-- line n below line k stores register v, in the block of line k, and starts a statement; bs and ss are the tables
unfoldable pub stores_at : ℕ → List (List ℕ) → List ℕ → List ℕ → ℕ → ℕ → Bool
stores_at v below bs ss k n = line_stores v (get_or below n []) && (eqb (get_or bs (k + suc n) 0) (get_or bs k 0) && eqb (get_or ss (k + suc n) 0) 1)

-- register v is bound, where the line s declares it
unfoldable pub bound_at : List ℕ → Site → List ℕ → List ℕ → ℕ → Bool
unfolding decl_count store_count use_row stores_at
bound_at t s bs ss v =
    eqb (decl_count v (above_of t s) + (decl_count v (line_of t s ∷ []) + decl_count v (below_of t s))) 1
    && (eqb (store_count v (above_of t s) + store_count v (below_of t s)) 1
    && (not (used_in v (above_of t s)) && stores_at v (below_of t s) bs ss s.row (use_row v (below_of t s))))

-- the entry of the mark that it makes
abbrev pub mark_row : List ℕ → Site → ℕ → ℕ
mark_row t s v = s.row + suc (use_row v (below_of t s))

-- ---- pieces of a declaration, by any test f of registers

-- a name is a register that passes
abbrev pub passes : (ℕ → Bool) → Option Register → Bool
passes f None = false
passes f (Some q) = f q.0

-- a name is a register that does not
abbrev pub fails : (ℕ → Bool) → Option Register → Bool
fails f None = false
fails f (Some q) = not (f q.0)

-- a text names one that does not
abbrev pub left : (ℕ → Bool) → List ℕ → Bool
left f t = fails f (reg_of t)

-- some piece passes
unfoldable pub any_pass : (ℕ → Bool) → List (List ℕ) → Bool
any_pass f [] = false
any_pass f (p ∷ ps) = passes f (reg_of (trim_of p)) || any_pass f ps

-- the table of marks m after a name: where it passes, its entry g is 1
abbrev pub noted : (ℕ → Bool) → (ℕ → ℕ) → Option Register → List ℕ → List ℕ
noted f g None m = m
noted f g (Some q) m = cond (f q.0) (set m (g q.0) 1) m

-- and after all pieces
unfoldable pub noted_all : (ℕ → Bool) → (ℕ → ℕ) → List (List ℕ) → List ℕ → List ℕ
noted_all f g [] m = m
noted_all f g (p ∷ ps) m = noted_all f g ps (noted f g (reg_of (trim_of p)) m)

-- ---- a line

-- a line is a declaration that gives up a name
unfoldable pub gives_up : (ℕ → Bool) → List ℕ → Bool
unfolding any_pass
gives_up f l = is_decl (trim_of l) && any_pass f (parts_of (code ",") (body_of (trim_of l)))

-- what a line that gives up no name is written as, with its LF: m says whether it is marked
unfoldable pub other_text : List ℕ → ℕ → List ℕ
other_text l m = cond (eqb m 1) (promoted l) l ++ ascii "\n"

-- what a line is written as, with its LF
unfoldable pub site_text : (ℕ → Bool) → List ℕ → ℕ → List ℕ
unfolding gives_up kept other_text
site_text f l m = cond (gives_up f l) (decl_text (take (from_of l) l) (kept (left f) 1 (parts_of (code ",") (body_of (trim_of l)))) false) (other_text l m)

-- the table of marks after it
unfoldable pub site_marks : (ℕ → Bool) → (ℕ → ℕ) → List ℕ → List ℕ → List ℕ
unfolding gives_up noted_all
site_marks f g l m = cond (gives_up f l) (noted_all f g (parts_of (code ",") (body_of (trim_of l))) m) m

-- the same where the line has the row k, and 2 stands there where nothing is left of it
unfoldable pub site_notes : (ℕ → Bool) → (ℕ → ℕ) → List ℕ → ℕ → List ℕ → List ℕ
unfolding site_text site_marks
site_notes f g l k m = cond (eqb (length (site_text f l (get_or m k 0))) 0) (set (site_marks f g l m) k 2) (site_marks f g l m)

-- ---- marks

-- what the table of marks says in the end: 2 of a line that goes, else 1 of one that was marked
abbrev pub end_note : Act → Bool → ℕ
end_note keep m = cond m 1 0
end_note (become t) m = cond m 1 0
end_note (into n) m = 2
end_note gone m = 2

-- of the lines in a walk
unfoldable pub notes_go : List BlockLine → List (List ℕ) → List Bool → List ℕ
unfolding bind_act mark_all pieces_of until_head
notes_go [] above ms = []
notes_go (d ∷ ss) above ms =
    end_note (bind_act d (above_in d above) (until_head ss) (marked ms)) (marked ms)
    ∷ notes_go ss (d.line ∷ above_in d above) (mark_all (pieces_of d.line) (above_in d above) d (until_head ss) (drop 1 ms))

-- of all lines
unfoldable pub bind_notes : Reading → List (List ℕ) → List ℕ
unfolding notes_go block_lines
bind_notes R ls = notes_go (block_lines R ls) [] []

-- the moves that it tells: a line with 2 is gone
unfoldable pub note_moves : List ℕ → List ℕ
note_moves [] = []
note_moves (n ∷ ns) = cond (eqb n 2) far_move 0 ∷ note_moves ns

-- ---- the tables

-- lines by tables that have an entry for each: its block, and 1 where it may start a statement
unfoldable pub tabled : List (List ℕ) → List ℕ → List ℕ → List BlockLine
tabled [] bs ss = []
tabled (l ∷ ls) [] ss = []
tabled (l ∷ ls) (b ∷ bs) [] = []
tabled (l ∷ ls) (b ∷ bs) (s ∷ ss) = record { line = l; block = b; starts = eqb s 1 } ∷ tabled ls bs ss

-- the entries of the two tables are those of the lines
pub data Rows : List BlockLine → List ℕ → List ℕ → Type 0 where
  none : {bs ss : List ℕ} → Rows [] bs ss
  row : {d : BlockLine} {ds : List BlockLine} {bs ss : List ℕ} → Rows ds bs ss → Rows (d ∷ ds) (d.block ∷ bs) (cond d.starts 1 0 ∷ ss)

-- the tables reach as far as the region of a line
abbrev pub Reach : List ℕ → Site → List ℕ → List ℕ → Type 0
Reach t s bs ss = (s.row + suc (length (below_of t s)) ≤ length bs) × (s.row + suc (length (below_of t s)) ≤ length ss)
