-- What the code of rebuild_calls keeps in its tables. Assumes nothing.
use Rattle.std.specs.Prelude.{ℕ, zero, suc, ◌+◌, ◌≤◌, ◌<◌, ◌≡◌, Bool, List, [], ◌∷◌, eqb, length, take, drop, get_or}
use Prim.Native.Char.{code}
use Rattle.lines.specs.Lf.{up_to, lines_of, unlines}
use Rattle.lines.specs.Acts.{Act, keep, become, into, gone, act, apply}
use Rattle.place.specs.Region.{is_header}
use Rattle.place.specs.Inner.Fill.{Filled}
use Rattle.calls.specs.Leaves.{Leaves}
use Rattle.calls.specs.LeavesOf.{leaves_by}
use Rattle.calls.specs.Calls.{Item, Row, Walked, lines_on, climb, items_of, acts_up, read_later, walk, turn, rebuild_calls_acts, rebuild_calls}

-- how far below a line its owner stands, or 0 where it has none
unfoldable pub owner_of : Act → ℕ
owner_of keep = 0
owner_of (become t) = 0
owner_of (into n) = n
owner_of gone = 0

-- the same for lines
unfoldable pub owners_of : List Act → List ℕ
unfolding owner_of
owners_of [] = []
owners_of (a ∷ more) = owner_of a ∷ owners_of more

module _ (L : Leaves) where
  -- the rows after the first n of some lines, the last first
  unfoldable pub rows_to : ℕ → List Item → List Row → List Row
  rows_to zero xs rows = rows
  rows_to (suc n) [] rows = rows
  rows_to (suc n) (x ∷ xs) rows = rows_to n xs (turn L x (lines_on xs) rows)

  -- the walk up from the first of some lines
  unfoldable pub walk_from : List Item → List Row → Walked
  walk_from [] rows = record { act = keep; rows = rows }
  walk_from (x ∷ xs) rows = walk L x.block (λ v. read_later L v (lines_on xs)) climb rows 1 (L.header x.line) x.line [] []

-- the leaves by tables that have an entry for each line: its block, and 1 where it starts a statement
abbrev pub tabled : List ℕ → List ℕ → Leaves
tabled bs fs = leaves_by (λ (above : List (List ℕ)). eqb (get_or fs (length above) 0) 1) (λ (ls : List (List ℕ)). bs)

-- the lines of a text with their blocks
unfoldable pub items_in : List ℕ → List ℕ → List Item
items_in t bs = items_of (lines_of t) bs

-- the rows above line n of a text, by tables, as they are when the pass comes to it
unfoldable pub rows_at : List ℕ → List ℕ → List ℕ → ℕ → List Row
rows_at t bs fs n = rows_to (tabled bs fs) n (items_in t bs) []

-- the walk up from line n
unfoldable pub walk_at : List ℕ → List ℕ → List ℕ → ℕ → Walked
walk_at t bs fs n = walk_from (tabled bs fs) (drop n (items_in t bs)) (rows_at t bs fs n)

-- line n
abbrev pub line_at : List ℕ → ℕ → List ℕ
line_at t n = get_or (lines_of t) n []

-- a table of owners and a stack of lines keep the rows of the first n lines of t: each line's owner, and below o the bytes of the lines that stand
pub record Keeps (t : List ℕ) (n : ℕ) (rows : List Row) (owner stack : List ℕ) (o : ℕ) : Type 0 where
  pub owners : take n owner ≡ owners_of (acts_up rows [])
  pub stands : take o stack ≡ unlines (apply (acts_up rows []) (take n (lines_of t)))
  pub many : n ≤ length owner
  pub fits : o ≤ length stack

-- line n of t begins at i, and the lines below it begin at f
pub record Stands (t : List ℕ) (n i f : ℕ) : Type 0 where
  pub within : n < length (lines_of t)
  pub above : take i t ≡ unlines (take n (lines_of t))
  pub below : lines_of (drop f t) ≡ drop (suc n) (lines_of t)
  pub from : i ≤ length t

-- the tables of blocks and of starts of statements have an entry for each line of t
pub record Placed (t bs fs : List ℕ) : Type 0 where
  pub blocks-many : length (lines_of t) ≤ length bs
  pub starts-many : length (lines_of t) ≤ length fs

-- at the foot of a walk from line n: the line stands at the front of cur
pub record Foot (t : List ℕ) (n : ℕ) (over : Bool) (cur : List ℕ) (size : ℕ) : Type 0 where
  pub line : take size cur ≡ line_at t n
  pub header : over ≡ is_header (line_at t n)
  pub sized : size ≡ length (line_at t n)

-- at its end: below `height` the stack and the table of owners keep the rows that it leaves, and what the line becomes stands at the front of cur
pub record Peaked (t bs fs : List ℕ) (n : ℕ) (owner owner' stack cur : List ℕ) (height size most : ℕ) : Type 0 where
  pub keeps : Keeps t n (walk_at t bs fs n).rows owner' stack height
  pub beyond : drop n owner' ≡ drop n owner
  pub line : act (walk_at t bs fs n).act (line_at t n) ≡ take size cur ∷ []
  pub room : height + size ≤ most
  pub sized : size ≤ length cur

-- line n of t stands from i up to e
pub record LineAt (t : List ℕ) (n i e : ℕ) : Type 0 where
  pub inside : i < length t
  pub above : take i t ≡ unlines (take n (lines_of t))
  pub here : lines_of (drop i t) ≡ drop n (lines_of t)
  pub ends : e ≡ i + up_to (code "\n") (drop i t)

-- all is ready for line n, which stands from i up to e: the tables, and room in the buffers
pub record Ready (t : List ℕ) (n i e : ℕ) (bs fs owner stack : List ℕ) (o : ℕ) (cur next : List ℕ) : Type 0 where
  pub keeps : Keeps t n (rows_at t bs fs n) owner stack o
  pub spot : LineAt t n i e
  pub placed : Placed t bs fs
  pub many : n < length owner
  pub low : o ≤ i
  pub stack-room : length (unlines (lines_of t)) ≤ length stack
  pub cur-room : length t ≤ length cur
  pub next-room : length t ≤ length next

-- after line n: the tables keep one row more, and the stack has grown by no more than the line and its LF
pub record TurnedLine (t bs fs : List ℕ) (n : ℕ) (owner owner' stack : List ℕ) (o r : ℕ) : Type 0 where
  pub keeps : Keeps t (suc n) (rows_at t bs fs (suc n)) owner' stack r
  pub beyond : drop (suc n) owner' ≡ drop (suc n) owner
  pub room : r ≤ o + length (line_at t n) + 1

-- after all lines: below r the stack has the bytes of the lines that the pass makes by the tables, and the table has the owner of each line
pub record Rebuilt (t bs fs owner owner' stack : List ℕ) (r : ℕ) : Type 0 where
  pub owners : Filled owner (owners_of (rebuild_calls_acts (tabled bs fs) (lines_of t))) owner' (length (lines_of t))
  pub lines : take r stack ≡ unlines (rebuild_calls (tabled bs fs) (lines_of t))
  pub fits : r ≤ length stack
