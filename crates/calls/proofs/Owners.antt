-- The Rust's whole test for a dropped row, `*o == li || inlined.contains(o)`: its first half never holds. Assumes nothing.
use Prim.Native.Nat.{ℕ, zero, suc, ◌-◌, ◌<◌}
use mathlib.Core.Path.{◌≡◌, refl, ap, ◌∙◌, fun_ext}
use mathlib.Core.Bool.{Bool, true, false, cond, ◌||◌}
use mathlib.Core.List.{List, [], ◌∷◌}
use native.Mathlib.Omega.{arith}
use borrow.Author.Tests.{ne_eqb}
use lib.Dec.{eqb}
use Rattle.lines.specs.Acts.{Act, keep, become, into, gone}
use Rattle.calls.specs.Leaves.{Leaves}
use Rattle.calls.specs.Calls.{Item, Row, Walked, Step, end, skip, absorb, stop, pass, tries, settle_row, row_lines, lines_on, has, climb, made, on_step, read_later, stepAt, walk, turn, rows_of}
use Rattle.calls.proofs.Cut.{walk_step}
use Rattle.calls.specs.Inner.Tables.{owner_of}

-- ---- the definition with the whole test
module _ (L : Leaves) where
  module _ (b : ℕ) (later : ℕ → Bool) where
    -- a step, a walk, a turn and the rows, as in the definition
    unfoldable pub stepLi : Act → Item → ℕ → Bool → List ℕ → List ℕ → List (List ℕ) → List (List ℕ) → Step
    stepLi (into n) x d over cur took lines above = cond (eqb n d || has (d - n) took) skip end
    stepLi gone x d over cur took lines above = stepAt L b later gone x d over cur took lines above
    stepLi keep x d over cur took lines above = stepAt L b later keep x d over cur took lines above
    stepLi (become t) x d over cur took lines above = stepAt L b later (become t) x d over cur took lines above

    unfoldable pub walkLi : ℕ → List Row → ℕ → Bool → List ℕ → List ℕ → List (List ℕ) → Walked
    unfolding on_step made
    walkLi zero rows d over cur took lines = stop took cur rows
    walkLi (suc left) [] d over cur took lines = stop took cur []
    walkLi (suc left) (r ∷ rs) d over cur took lines =
        on_step
        (stepLi r.act r.item d over cur took lines (row_lines rs))
        (stop took cur (r ∷ rs))
        (pass r.item r.act (walkLi left rs (suc d) (over || L.header r.item.line) cur took lines))
        (λ next. pass r.item (into d) (walkLi left rs (suc d) (over || L.header r.item.line) next (d ∷ took) (r.item.line ∷ lines)))

  unfoldable pub turn_li : Item → List (List ℕ) → List Row → List Row
  turn_li x below rows =
      cond (tries L x.line rows)
      (settle_row L x (walkLi x.block (λ v. read_later L v below) climb rows 1 (L.header x.line) x.line [] []))
      (record { item = x; act = keep } ∷ rows)

  unfoldable pub rows_li : List Item → List Row → List Row
  rows_li [] rows = rows
  rows_li (x ∷ xs) rows = rows_li xs (turn_li x (lines_on xs) rows)

-- ---- every owner is nearer than j lines to its row, the nearest row being j lines up
unfoldable pub owned : ℕ → List Row → Type 0
owned j [] = Unit
owned j (r ∷ rs) = (owner_of r.act < j) × owned (suc j) rs

pub owned-more : (j : ℕ) (rs : List Row) → owned j rs → owned (suc j) rs
unfolding owned
owned-more j [] q = q
owned-more j (r ∷ rs) q = (omega (arith, q.0), owned-more (suc j) rs q.1)

pub made-owner : (took cur : List ℕ) → owner_of (made took cur) ≡ 0
unfolding made owner_of
made-owner [] cur = refl
made-owner (d ∷ took) cur = refl

pub keep-owner : owner_of keep ≡ 0
unfolding owner_of
keep-owner = refl

owner-low : (e : ℕ) → owner_of (into e) < suc e
unfolding owner_of
owner-low e = omega arith

module _ (L : Leaves) where
  step-li : (b : ℕ) (later : ℕ → Bool) (a : Act) (x : Item) (d : ℕ) (over : Bool) (cur took : List ℕ) (lines above : List (List ℕ)) → owner_of a < d
      → stepLi L b later a x d over cur took lines above ≡ stepAt L b later a x d over cur took lines above
  unfolding stepLi stepAt owner_of
  step-li b later (into n) x d over cur took lines above q = rw (ne_eqb n d (λ m. omega arith))
  step-li b later gone x d over cur took lines above q = refl
  step-li b later keep x d over cur took lines above q = refl
  step-li b later (become t) x d over cur took lines above q = refl

  walk-li : (b : ℕ) (later : ℕ → Bool) (left : ℕ) (rs : List Row) (d : ℕ) (over : Bool) (cur took : List ℕ) (lines : List (List ℕ)) → owned d rs
      → walkLi L b later left rs d over cur took lines ≡ walk L b later left rs d over cur took lines
  unfolding walkLi walk owned
  walk-li b later zero rs d over cur took lines q = refl
  walk-li b later (suc left) [] d over cur took lines q = refl
  walk-li b later (suc left) (r ∷ rs) d over cur took lines q =
      let on = over || L.header r.item.line in
      ap (λ (s : Step). on_step s (stop took cur (r ∷ rs)) (pass r.item r.act (walkLi L b later left rs (suc d) on cur took lines)) (λ next. pass r.item (into d) (walkLi L b later left rs (suc d) on next (d ∷ took) (r.item.line ∷ lines)))) (step-li b later r.act r.item d over cur took lines (row_lines rs) q.0)
      ∙ ap (λ (u : Walked). on_step (stepAt L b later r.act r.item d over cur took lines (row_lines rs)) (stop took cur (r ∷ rs)) (pass r.item r.act u) (λ next. pass r.item (into d) (walkLi L b later left rs (suc d) on next (d ∷ took) (r.item.line ∷ lines)))) (walk-li b later left rs (suc d) on cur took lines q.1)
      ∙ ap (λ (f : List ℕ → Walked). on_step (stepAt L b later r.act r.item d over cur took lines (row_lines rs)) (stop took cur (r ∷ rs)) (pass r.item r.act (walk L b later left rs (suc d) on cur took lines)) (λ next. pass r.item (into d) (f next))) (fun_ext (λ next. walk-li b later left rs (suc d) on next (d ∷ took) (r.item.line ∷ lines) q.1))

  pub walk-owned : (b : ℕ) (later : ℕ → Bool) (left : ℕ) (rs : List Row) (d : ℕ) (over : Bool) (cur took : List ℕ) (lines : List (List ℕ)) → owned d rs
      → (owner_of (walk L b later left rs d over cur took lines).act ≡ 0) × owned (suc d) (walk L b later left rs d over cur took lines).rows
  unfolding walk owned
  walk-owned b later zero rs d over cur took lines q = (made-owner took cur, owned-more d rs q)
  walk-owned b later (suc left) [] d over cur took lines q = (made-owner took cur, q)
  walk-owned b later (suc left) (r ∷ rs) d over cur took lines q =
      go (stepAt L b later r.act r.item d over cur took lines (row_lines rs)) refl
      (walk-owned b later left rs (suc d) (over || L.header r.item.line) cur took lines q.1)
      (λ next. walk-owned b later left rs (suc d) (over || L.header r.item.line) next (d ∷ took) (r.item.line ∷ lines) q.1)
    where
      go : (s : Step)
          → stepAt L b later r.act r.item d over cur took lines (row_lines rs) ≡ s
          → (owner_of (walk L b later left rs (suc d) (over || L.header r.item.line) cur took lines).act ≡ 0) × owned (suc (suc d)) (walk L b later left rs (suc d) (over || L.header r.item.line) cur took lines).rows
          → ((next : List ℕ) → (owner_of (walk L b later left rs (suc d) (over || L.header r.item.line) next (d ∷ took) (r.item.line ∷ lines)).act ≡ 0) × owned (suc (suc d)) (walk L b later left rs (suc d) (over || L.header r.item.line) next (d ∷ took) (r.item.line ∷ lines)).rows)
          → (owner_of (walk L b later (suc left) (r ∷ rs) d over cur took lines).act ≡ 0) × owned (suc d) (walk L b later (suc left) (r ∷ rs) d over cur took lines).rows
      go end p c k = rw (walk_step L b later left r rs d over cur took lines, p) (made-owner took cur, (omega (arith, q.0), owned-more (suc d) rs q.1))
      go skip p c k = rw (walk_step L b later left r rs d over cur took lines, p) (c.0, (omega (arith, q.0), c.1))
      go (absorb next) p c k = rw (walk_step L b later left r rs d over cur took lines, p) ((k next).0, (owner-low d, (k next).1))

  pub turn-owned : (x : Item) (below : List (List ℕ)) (rs : List Row) → owned 1 rs → owned 1 (turn L x below rs)
  unfolding turn owned
  turn-owned x below rs q = go (tries L x.line rs) refl
    where
      go : (t : Bool) → tries L x.line rs ≡ t → owned 1 (turn L x below rs)
      go true p =
          let w = walk-owned x.block (λ v. read_later L v below) climb rs 1 (L.header x.line) x.line [] [] q in
          rw p (omega (arith, w.0), w.1)
      go false p = rw p (omega (arith, made-owner [] x.line, keep-owner), owned-more 1 rs q)

  turn-li : (x : Item) (below : List (List ℕ)) (rs : List Row) → owned 1 rs → turn_li L x below rs ≡ turn L x below rs
  unfolding turn_li turn
  turn-li x below rs q =
      ap (λ (w : Walked). cond (tries L x.line rs) (settle_row L x w) (record { item = x; act = keep } ∷ rs)) (walk-li x.block (λ v. read_later L v below) climb rs 1 (L.header x.line) x.line [] [] q)

  rows-li : (xs : List Item) (rs : List Row) → owned 1 rs → rows_li L xs rs ≡ rows_of L xs rs
  unfolding rows_li rows_of
  rows-li [] rs q = refl
  rows-li (x ∷ xs) rs q = ap (rows_li L xs) (turn-li x (lines_on xs) rs q) ∙ rows-li xs (turn L x (lines_on xs) rs) (turn-owned x (lines_on xs) rs q)

  -- the definition is the one with the whole test
  pub whole-test : (xs : List Item) → rows_li L xs [] ≡ rows_of L xs []
  unfolding owned
  whole-test xs = rows-li xs [] tt
