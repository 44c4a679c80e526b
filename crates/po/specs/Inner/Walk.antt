-- For the inner functions: the literals from a place on, with a digest of the text left so far; a literal unit by unit. Assumes nothing.
use Rattle.std.specs.Prelude.{ℕ, zero, suc, ◌+◌, ◌-◌, ◌≤◌, ◌<◌, ◌≡◌, Bool, true, cond, not, ◌&&◌, ◌||◌, List, [], ◌∷◌, ◌++◌, length, drop, get_or, eqb, ltb}
use Prim.Native.Char.{code}
use Rattle.lines.specs.Lf.{part, lines_of, unlines}
use Rattle.names.specs.Names.{decimal}
use Rattle.lines.specs.Ascii.{ascii}
use Rattle.po.specs.Form.{escaped, head_lines, body_lines}
use Rattle.lexical.specs.declared.Tail.{Tail}
use Rattle.lexical.specs.Lex.{token_of, leaves}
use Rattle.lexical.specs.Inner.Lex.{tail_of, grown}
use Rattle.po.specs.declared.Cursor.{Cursor}
use Rattle.po.specs.declared.Unit.{Unit}
use Rattle.po.specs.Found.{is_escape, plain_of, Literal, literal_of, literals_of, literal_text, entries}

-- ---- a literal unit by unit

abbrev pub unit : ℕ → ℕ → Unit
unit n b = record { size = n; byte = b }

-- a byte that stands for itself, or ends the literal
abbrev pub single_of : ℕ → ℕ → Unit
single_of x q = cond (eqb x q) (unit 0 0) (unit 1 x)

-- the first byte of a literal's text, and how many bytes stand for it; none where the literal ends
unfoldable pub unit_of : List ℕ → ℕ → Unit
unit_of [] q = unit 0 0
unit_of (x ∷ []) q = single_of x q
unit_of (x ∷ y ∷ l) q = cond (eqb x (code "\\")) (unit 2 (plain_of y)) (single_of x q)

-- a unit of n bytes, the second of them y, is another escape
abbrev pub is_odd : ℕ → ℕ → Bool
is_odd n y = eqb n 2 && not (is_escape y)

-- ---- the file as it is written

abbrev pub head_text : List ℕ
head_text = unlines head_lines

abbrev pub ref_text : List ℕ → ℕ → List ℕ
ref_text name n = ascii "\n#: " ++ (name ++ (ascii ":" ++ decimal n))

abbrev pub entry_text : List ℕ → ℕ → List ℕ → List ℕ
entry_text name n t = ref_text name n ++ (ascii "\nmsgid \"" ++ (escaped t ++ ascii "\"\nmsgstr \"\"\n"))

unfoldable pub body_text : List ℕ → List ℕ → List ℕ
unfolding body_lines entries
body_text name t = unlines (body_lines name (entries t))

-- ---- the literals from a place on

-- at the front of a line that ends at e
abbrev pub cursor_at : ℕ → ℕ → ℕ → Cursor
cursor_at n i e = record { line = n; at = i; end = e; tail = tail_of [] }

unfoldable pub lits_go : ℕ → List ℕ → ℕ → Tail → ℕ → List Literal
unfolding token_of grown
lits_go n [] k t i = []
lits_go n (x ∷ xs) (suc k) t i = lits_go n xs k t (suc i)
lits_go n (x ∷ xs) zero t i = literal_of n i x xs ++ lits_go n xs ((token_of t.last x xs).size - 1) (grown t (leaves (token_of t.last x xs).kind x)) (suc i)

-- from the cursor on: those of its line, and those of the lines after it
unfoldable pub spots_from : List ℕ → Cursor → List Literal
unfolding lits_go
spots_from t c = lits_go c.line (part c.at c.end t) 0 c.tail c.at ++ literals_of (suc c.line) (suc c.end) (lines_of (drop (suc c.end) t))

-- a cursor of a text: in a line of it
pub record Stands (t : List ℕ) (c : Cursor) : Type 0 where
  pub order : c.at ≤ c.end
  pub within : c.end ≤ length t
  pub few : c.line ≤ suc c.at

-- a literal begins at the cursor
abbrev pub at_lit : List ℕ → Cursor → Bool
at_lit t c = ltb c.at c.end && (eqb (get_or t c.at 0) (code "\"") || eqb (get_or t c.at 0) (code "'"))

-- a cursor at a literal, or at the end
pub record Ready (t : List ℕ) (c : Cursor) : Type 0 where
  pub stands : Stands t c
  pub lit : c.at < length t → at_lit t c ≡ true

abbrev pub spot_at : List ℕ → Cursor → Literal
spot_at t c = record { line = c.line; place = c.at; quote = get_or t c.at 0; rest = part (c.at + 1) c.end t }

abbrev pub here_at : List ℕ → Cursor → List Literal
here_at t c = cond (at_lit t c) (spot_at t c ∷ []) []

-- the texts of literals
unfoldable pub texts : List Literal → List (List ℕ)
texts [] = []
texts (s ∷ ss) = literal_text s ∷ texts ss
