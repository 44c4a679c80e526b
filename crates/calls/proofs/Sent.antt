-- Nothing is lost unsaid: rebuild_calls lets no line go but into another. Assumes nothing.
use Prim.Native.Nat.{ℕ, zero, suc, ◌<◌}
use mathlib.Core.Path.{◌≡◌, refl, ap, ◌∙◌}
use mathlib.Core.Bool.{Bool, true, false, ◌&&◌, ◌||◌}
use mathlib.Core.List.{List, [], ◌∷◌}
use native.Mathlib.Omega.{arith}
use borrow.Author.Tests.{lt-ltb}
use lib.Dec.{ltb}
use Rattle.lines.specs.Lf.{all}
use Rattle.lines.specs.Acts.{Act, keep, become, into, gone}
use Rattle.lines.proofs.Tests.{and_left, and_right, and_both}
use Rattle.calls.specs.Leaves.{Leaves}
use Rattle.calls.specs.Calls.{Item, Row, Walked, Step, end, skip, absorb, row_lines, lines_on, climb, made, tries, items_of, acts_up, read_later, stepAt, walk, turn, rows_of, rebuild_calls_acts}
use Rattle.calls.proofs.Cut.{walk_step}

-- a line is not gone, and does not go into itself
unfoldable pub says : Act → Bool
says keep = true
says (become t) = true
says (into n) = ltb 0 n
says gone = false

-- a row's line is not gone
abbrev says_row : Row → Bool
says_row r = says r.act

made-says : (took cur : List ℕ) → says (made took cur) ≡ true
unfolding made says
made-says [] cur = refl
made-says (d ∷ ds) cur = refl

into-says : (n : ℕ) → 0 < n → says (into n) ≡ true
unfolding says
into-says n h = lt-ltb 0 n h

keep-says : says keep ≡ true
unfolding says
keep-says = refl

-- of a walk: neither the line that it started from nor a row is
abbrev says_walked : Walked → Bool
says_walked w = says w.act && all says_row w.rows

module _ (L : Leaves) where
  walk-says : (b : ℕ) (later : ℕ → Bool) (left : ℕ) (rs : List Row) (d : ℕ) (over : Bool) (cur took : List ℕ) (lines : List (List ℕ))
      → 0 < d → all says_row rs ≡ true → says_walked (walk L b later left rs d over cur took lines) ≡ true
  unfolding walk
  walk-says b later zero rs d over cur took lines g h = and_both (made-says took cur) h
  walk-says b later (suc left) [] d over cur took lines g h = and_both (made-says took cur) refl
  walk-says b later (suc left) (r ∷ rs) d over cur took lines g h =
      go (stepAt L b later r.act r.item d over cur took lines (row_lines rs)) refl
      (walk-says b later left rs (suc d) (over || L.header r.item.line) cur took lines (omega arith) (and_right (says_row r) (all says_row rs) h))
      (λ next. walk-says b later left rs (suc d) (over || L.header r.item.line) next (d ∷ took) (r.item.line ∷ lines) (omega arith) (and_right (says_row r) (all says_row rs) h))
    where
      put : (a : Act) (w : Walked) → says a ≡ true → says_walked w ≡ true → says w.act && (says a && all says_row w.rows) ≡ true
      put a w p q = and_both (and_left (says w.act) (all says_row w.rows) q) (and_both p (and_right (says w.act) (all says_row w.rows) q))

      go : (s : Step)
          → stepAt L b later r.act r.item d over cur took lines (row_lines rs) ≡ s
          → says_walked (walk L b later left rs (suc d) (over || L.header r.item.line) cur took lines) ≡ true
          → ((next : List ℕ) → says_walked (walk L b later left rs (suc d) (over || L.header r.item.line) next (d ∷ took) (r.item.line ∷ lines)) ≡ true)
          → says_walked (walk L b later (suc left) (r ∷ rs) d over cur took lines) ≡ true
      go end q c k = ap says_walked (walk_step L b later left r rs d over cur took lines) ∙ rw q (and_both (made-says took cur) h)
      go skip q c k =
          ap says_walked (walk_step L b later left r rs d over cur took lines)
          ∙ rw q (put r.act (walk L b later left rs (suc d) (over || L.header r.item.line) cur took lines) (and_left (says_row r) (all says_row rs) h) c)
      go (absorb next) q c k =
          ap says_walked (walk_step L b later left r rs d over cur took lines)
          ∙ rw q (put (into d) (walk L b later left rs (suc d) (over || L.header r.item.line) next (d ∷ took) (r.item.line ∷ lines)) (into-says d g) (k next))

  turn-says : (x : Item) (below : List (List ℕ)) (rs : List Row) → all says_row rs ≡ true → all says_row (turn L x below rs) ≡ true
  unfolding turn
  turn-says x below rs h = go (tries L x.line rs) refl
    where
      go : (t : Bool) → tries L x.line rs ≡ t → all says_row (turn L x below rs) ≡ true
      go true q = rw q (walk-says x.block (λ v. read_later L v below) climb rs 1 (L.header x.line) x.line [] [] (omega arith) h)
      go false q = rw q (and_both keep-says h)

  rows-says : (xs : List Item) (rs : List Row) → all says_row rs ≡ true → all says_row (rows_of L xs rs) ≡ true
  unfolding rows_of
  rows-says [] rs h = h
  rows-says (x ∷ xs) rs h = rows-says xs (turn L x (lines_on xs) rs) (turn-says x (lines_on xs) rs h)

  up-says : (rs : List Row) (more : List Act) → all says_row rs ≡ true → all says more ≡ true → all says (acts_up rs more) ≡ true
  unfolding acts_up
  up-says [] more h k = k
  up-says (r ∷ rs) more h k = up-says rs (r.act ∷ more) (and_right (says_row r) (all says_row rs) h) (and_both (and_left (says_row r) (all says_row rs) h) k)

  -- all line stays, becomes another, or goes into a line below it
  pub none-gone : (ls : List (List ℕ)) → all says (rebuild_calls_acts L ls) ≡ true
  unfolding rebuild_calls_acts
  none-gone ls = up-says (rows_of L (items_of ls (L.blocks ls)) []) [] (rows-says (items_of ls (L.blocks ls)) [] refl) refl
