-- `rebuild_calls`: from each call line a walk up takes in the stores that feed it. Assumes nothing.
use Prim.Native.Nat.{ℕ, zero, suc, ◌-◌}
use Rattle.std.specs.Prelude.{Bool, true, false, ◌&&◌, ◌||◌, eqb}
use Rattle.std.proofs.Math.Bool.{cond, not}
use mathlib.Core.List.{List, [], ◌∷◌}
use Rattle.lines.specs.Acts.{Act, keep, become, into, gone, apply}
use Rattle.calls.specs.Leaves.{Leaves, Parsed, store, other, Context, unclear, target, newed, operand}

-- a line with its block
pub record Item : Type 0 where
  pub line : List ℕ
  pub block : ℕ

-- a line above the one that is looked at, and what has become of it so far: `keep`, it stands as it was; `become`, `rewritten`
-- has a text for it; `into n`, it is dropped, and its owner is n lines below it
pub record Row : Type 0 where
  pub item : Item
  pub act : Act

-- what a walk leaves: what becomes of the line that it started from, and the rows above it
pub record Walked : Type 0 where
  pub act : Act
  pub rows : List Row

-- the lines of rows, as they were given
unfoldable pub row_lines : List Row → List (List ℕ)
row_lines [] = []
row_lines (r ∷ rs) = r.item.line ∷ row_lines rs

-- the lines that are still to come
unfoldable pub lines_on : List Item → List (List ℕ)
lines_on [] = []
lines_on (x ∷ xs) = x.line ∷ lines_on xs

-- a number is one of a list
unfoldable pub has : ℕ → List ℕ → Bool
has n [] = false
has n (x ∷ xs) = eqb n x || has n xs

-- the line that a walk started from: kept, where it took nothing
unfoldable pub made : List ℕ → List ℕ → Act
made [] cur = keep
made (d ∷ ds) cur = become cur

-- a walk that ends here
abbrev pub stop : List ℕ → List ℕ → List Row → Walked
stop took cur rows = record { act = made took cur; rows = rows }

-- a walk that has gone past a row, whose act is a
abbrev pub pass : Item → Act → Walked → Walked
pass x a w = record { act = w.act; rows = record { item = x; act = a } ∷ w.rows }

-- one step of a walk: it ends, it goes over the row, or it absorbs the row and li becomes another text
pub data Step : Type 0 where
  end : Step
  skip : Step
  absorb : List ℕ → Step

-- what a step leads to
unfoldable pub on_step : Step → Walked → Walked → (List ℕ → Walked) → Walked
on_step end ended skipped absorbed = ended
on_step skip ended skipped absorbed = skipped
on_step (absorb next) ended skipped absorbed = absorbed next

-- what was read stores register v
unfoldable pub stores_in : ℕ → Parsed → Bool
stores_in v (store w x) = eqb w v
stores_in v other = false

-- a line that could be made is absorbed into, and none ends the walk
unfoldable pub or_end : List (List ℕ) → Step
or_end [] = end
or_end (next ∷ more) = absorb next

-- each line with its block; a block that is missing counts as 0
unfoldable pub items_of : List (List ℕ) → List ℕ → List Item
items_of [] bs = []
items_of (l ∷ ls) [] = record { line = l; block = 0 } ∷ items_of ls []
items_of (l ∷ ls) (b ∷ bs) = record { line = l; block = b } ∷ items_of ls bs

-- the acts of rows in the order of the lines
unfoldable pub acts_up : List Row → List Act → List Act
acts_up [] more = more
acts_up (r ∷ rs) more = acts_up rs (r.act ∷ more)

-- how many steps up a walk may take
unfoldable pub climb : ℕ
climb = 64

module _ (L : Leaves) where
  -- a read of v below, in this region and up to the next store of v, whose own reads count
  unfoldable pub read_later : ℕ → List (List ℕ) → Bool
  read_later v [] = false
  read_later v (l ∷ ls) =
      let more = read_later v ls in
      let on = not (eqb (L.reads v l) 0) || (not (stores_in v (L.parse l)) && more) in
      cond (L.header l) false on

  -- one of the absorbed lines, as they were given, writes what the value needs
  unfoldable pub breaks_one : List ℕ → List (List ℕ) → Bool
  breaks_one value [] = false
  breaks_one value (l ∷ ls) = L.breaks value l || breaks_one value ls

  -- the value put in the place of the register, by what stands around it
  unfoldable pub put_by : Context → List ℕ → ℕ → List ℕ → Step
  put_by unclear cur v value = end
  put_by target cur v value = end
  put_by newed cur v value = or_end (L.replace cur v (L.paren value true))
  put_by operand cur v value = or_end (L.replace cur v (L.paren value false))

  -- A walk starts from `li`, a line of block b; `later v`, a line below still reads v. At a row that is d lines above li: `over`, a header
  -- stands between them or is li; `cur`, li's text so far; `took`, how far above li the rows stand that this walk absorbed; `lines`,
  -- these as they were given. The Rust also goes on over a row whose owner is li: such a row this walk has passed already, so it is never met.
  module _ (b : ℕ) (later : ℕ → Bool) where
    -- at a row that stands, by what its text now is
    unfoldable pub storeStep : Parsed → Bool → List ℕ → List (List ℕ) → ℕ → List (List ℕ) → Step
    unfolding put_by
    storeStep other over cur lines blk above = end
    storeStep (store v value) over cur lines blk above =
        cond
        (not over && (eqb blk b && (L.starts above && (eqb (L.reads v cur) 1 && (not (later v) && not (breaks_one value lines))))))
        (put_by (L.context cur v) cur v value)
        end

    -- at a row, by its act so far: a dropped one is stepped over where its owner was absorbed by this walk
    unfoldable pub stepAt : Act → Item → ℕ → Bool → List ℕ → List ℕ → List (List ℕ) → List (List ℕ) → Step
    unfolding storeStep
    stepAt (into n) x d over cur took lines above = cond (has (d - n) took) skip end
    stepAt gone x d over cur took lines above = end
    stepAt keep x d over cur took lines above = storeStep (L.parse x.line) over cur lines x.block above
    stepAt (become t) x d over cur took lines above = storeStep (L.parse t) over cur lines x.block above

    -- the walk up the rows, the nearest first, with so many steps left
    unfoldable pub walk : ℕ → List Row → ℕ → Bool → List ℕ → List ℕ → List (List ℕ) → Walked
    unfolding stepAt on_step made
    walk zero rows d over cur took lines = stop took cur rows
    walk (suc left) [] d over cur took lines = stop took cur []
    walk (suc left) (r ∷ rs) d over cur took lines =
        let over' = over || L.header r.item.line in
        let ended = stop took cur (r ∷ rs) in
        let skipped = pass r.item r.act (walk left rs (suc d) over' cur took lines) in
        let absorbed : List ℕ → Walked = λ next. pass r.item (into d) (walk left rs (suc d) over' next (d ∷ took) (r.item.line ∷ lines)) in
        on_step (stepAt r.act r.item d over cur took lines (row_lines rs)) ended skipped absorbed

  -- li is a call line that may take values in
  abbrev pub tries : List ℕ → List Row → Bool
  tries l rows = L.call l && (L.starts (row_lines rows) && not (L.control l))

  -- li among the rows, with what became of it
  abbrev pub settle_row : Item → Walked → List Row
  settle_row x w = record { item = x; act = w.act } ∷ w.rows

  -- one call line, given the rows above, the nearest first
  unfoldable pub turn : Item → List (List ℕ) → List Row → List Row
  turn x below rows =
      let walked = settle_row x (walk x.block (λ v. read_later v below) climb rows 1 (L.header x.line) x.line [] []) in
      cond (tries x.line rows) walked (record { item = x; act = keep } ∷ rows)

  -- the rows of all lines, the last first
  unfoldable pub rows_of : List Item → List Row → List Row
  rows_of [] rows = rows
  rows_of (x ∷ xs) rows = rows_of xs (turn x (lines_on xs) rows)

  -- what becomes of each line
  unfoldable pub rebuild_calls_acts : List (List ℕ) → List Act
  unfolding climb row_lines lines_on has or_end stores_in read_later breaks_one walk turn rows_of items_of acts_up
  rebuild_calls_acts ls = acts_up (rows_of (items_of ls (L.blocks ls)) []) []

  -- `rebuild_calls`
  unfoldable pub rebuild_calls : List (List ℕ) → List (List ℕ)
  unfolding rebuild_calls_acts apply
  rebuild_calls ls = apply (rebuild_calls_acts ls) ls
