-- No weight of lines grows, if putting a value in does not raise it: room (length, commas, LF), and that no line holds an LF. Assumes nothing.
use Prim.Native.Nat.{ℕ, zero, suc, ◌+◌, ◌-◌, ◌≤◌}
use mathlib.Core.Path.{◌≡◌, refl, ap, ◌∙◌}
use mathlib.Core.Bool.{Bool, true, false, cond, not, ◌&&◌, ◌||◌}
use mathlib.Core.List.{List, [], ◌∷◌, ◌++◌}
use native.Mathlib.Omega.{arith}
use lib.Dec.{eqb}
use Rattle.lines.specs.Acts.{Act, keep, become, into, gone, act}
use Rattle.calls.specs.Leaves.{Leaves, Parsed, store, other}
use Rattle.calls.specs.Calls.{Item, Row, Step, end, skip, absorb, tries, row_lines, lines_on, has, climb, made, items_of, read_later, breaks_one, put_by, storeStep, stepAt, walk, turn, rows_of, rebuild_calls}
use Rattle.calls.proofs.Cut.{walk_step}
use Rattle.calls.proofs.Edges.{standing, rebuilt, items-on}

unfoldable pub weighs : (List ℕ → ℕ) → List (List ℕ) → ℕ
weighs w [] = 0
weighs w (l ∷ ls) = w l + weighs w ls

weighs-append : (w : List ℕ → ℕ) (ls ms : List (List ℕ)) → weighs w (ls ++ ms) ≡ weighs w ls + weighs w ms
unfolding weighs
weighs-append w [] ms = omega arith
weighs-append w (l ∷ ls) ms = omega (arith, weighs-append w ls ms)

-- the three steps are apart
unfoldable pub code : Step → ℕ
code end = 0
code skip = 1
code (absorb next) = 2

pub apart : {A : Type 0} (s : Step) (next : List ℕ) → (code s ≡ 2 → ⊥) → s ≡ absorb next → A
unfolding code
apart s next f q = absurd (f (ap code q))

module _
    (L : Leaves)
    (w : List ℕ → ℕ)
    (fits : (cur t : List ℕ) (v : ℕ) (value next : List ℕ) → L.parse t ≡ store v value → put_by L (L.context cur v) cur v value ≡ absorb next → w next ≤ w cur + w t)
  where
    weigh : List Row → ℕ
    weigh [] = 0
    weigh (r ∷ rs) = weighs w (act r.act r.item.line) + weigh rs

    weigh-cons : (r : Row) (rs : List Row) → weigh (r ∷ rs) ≡ weighs w (act r.act r.item.line) + weigh rs
    unfolding weigh
    weigh-cons r rs = refl

    weigh-gone : (x : Item) (d : ℕ) (rs : List Row) → weigh (record { item = x; act = into d } ∷ rs) ≡ weigh rs
    unfolding weigh act weighs
    weigh-gone x d rs = omega arith

    made_some : (d : ℕ) (took next l : List ℕ) → weighs w (act (made (d ∷ took) next) l) ≤ w next
    unfolding made act weighs
    made_some d took next l = omega arith

    made_none : (l : List ℕ) → weighs w (act (made [] l) l) ≤ w l
    unfolding made act weighs
    made_none l = omega arith

    made-keep : (l : List ℕ) → weighs w (act keep l) ≤ w l
    unfolding act weighs
    made-keep l = omega arith

    weigh-standing : (rs : List Row) → weighs w (standing rs) ≡ weigh rs
    unfolding weigh standing weighs
    weigh-standing [] = refl
    weigh-standing (r ∷ rs) = weighs-append w (standing rs) (act r.act r.item.line) ∙ omega (arith, weigh-standing rs)

    module _ (b : ℕ) (later : ℕ → Bool) where
      store-fits : (p : Parsed) (t : List ℕ) → L.parse t ≡ p → (over : Bool) (cur : List ℕ) (lines : List (List ℕ)) (blk : ℕ) (above : List (List ℕ)) (next : List ℕ)
          → storeStep L b later p over cur lines blk above ≡ absorb next → w next ≤ w cur + w t
      unfolding storeStep code
      store-fits other t p over cur lines blk above next q = apart end next (λ e. omega arith) q
      store-fits (store v value) t p over cur lines blk above next q =
          go (not over && (eqb blk b && (L.starts above && (eqb (L.reads v cur) 1 && (not (later v) && not (breaks_one L value lines)))))) q
        where
          go : (s : Bool) → cond s (put_by L (L.context cur v) cur v value) end ≡ absorb next → w next ≤ w cur + w t
          go true k = fits cur t v value next p k
          go false k = apart end next (λ e. omega arith) k

      step_fits : (a : Act) (x : Item) (d : ℕ) (over : Bool) (cur took : List ℕ) (lines above : List (List ℕ)) (next : List ℕ)
          → stepAt L b later a x d over cur took lines above ≡ absorb next → w next ≤ w cur + weighs w (act a x.line)
      unfolding stepAt code act weighs
      step_fits (into n) x d over cur took lines above next q = go (has (d - n) took) q
        where
          go : (s : Bool) → cond s skip end ≡ absorb next → w next ≤ w cur + 0
          go true k = apart skip next (λ e. omega arith) k
          go false k = apart end next (λ e. omega arith) k
      step_fits gone x d over cur took lines above next q = apart end next (λ e. omega arith) q
      step_fits keep x d over cur took lines above next q = omega (arith, store-fits (L.parse x.line) x.line refl over cur lines x.block above next q)
      step_fits (become t) x d over cur took lines above next q = omega (arith, store-fits (L.parse t) t refl over cur lines x.block above next q)

      -- l is the line that the walk started from
      walk-weight : (l : List ℕ) (left : ℕ) (rs : List Row) (d : ℕ) (over : Bool) (cur took : List ℕ) (lines : List (List ℕ))
          → weighs w (act (made took cur) l) ≤ w cur
          → weighs w (act (walk L b later left rs d over cur took lines).act l) + weigh (walk L b later left rs d over cur took lines).rows ≤ w cur + weigh rs
      unfolding walk
      walk-weight l zero rs d over cur took lines k = omega arith
      walk-weight l (suc left) [] d over cur took lines k = omega arith
      walk-weight l (suc left) (r ∷ rs) d over cur took lines k =
          go (stepAt L b later r.act r.item d over cur took lines (row_lines rs)) refl
          (walk-weight l left rs (suc d) (over || L.header r.item.line) cur took lines k)
          (λ next. walk-weight l left rs (suc d) (over || L.header r.item.line) next (d ∷ took) (r.item.line ∷ lines) (made_some d took next l))
        where
          go : (s : Step)
              → stepAt L b later r.act r.item d over cur took lines (row_lines rs) ≡ s
              → weighs w (act (walk L b later left rs (suc d) (over || L.header r.item.line) cur took lines).act l) + weigh (walk L b later left rs (suc d) (over || L.header r.item.line) cur took lines).rows ≤ w cur + weigh rs
              → ((next : List ℕ) → weighs w (act (walk L b later left rs (suc d) (over || L.header r.item.line) next (d ∷ took) (r.item.line ∷ lines)).act l) + weigh (walk L b later left rs (suc d) (over || L.header r.item.line) next (d ∷ took) (r.item.line ∷ lines)).rows ≤ w next + weigh rs)
              → weighs w (act (walk L b later (suc left) (r ∷ rs) d over cur took lines).act l) + weigh (walk L b later (suc left) (r ∷ rs) d over cur took lines).rows ≤ w cur + weigh (r ∷ rs)
          go end q c m = rw (walk_step L b later left r rs d over cur took lines, q) (omega (arith, k))
          go skip q c m =
              let w' = walk L b later left rs (suc d) (over || L.header r.item.line) cur took lines in
              rw (walk_step L b later left r rs d over cur took lines, q) (omega (arith, c, weigh-cons r w'.rows, weigh-cons r rs))
          go (absorb next) q c m =
              let w' = walk L b later left rs (suc d) (over || L.header r.item.line) next (d ∷ took) (r.item.line ∷ lines) in
              rw (walk_step L b later left r rs d over cur took lines, q)
              (omega (arith, m next, weigh-gone r.item d w'.rows, weigh-cons r rs, step_fits r.act r.item d over cur took lines (row_lines rs) next q))

    turn-weight : (x : Item) (below : List (List ℕ)) (rs : List Row) → weigh (turn L x below rs) ≤ w x.line + weigh rs
    unfolding turn
    turn-weight x below rs = go (tries L x.line rs) refl
      where
        go : (t : Bool) → tries L x.line rs ≡ t → weigh (turn L x below rs) ≤ w x.line + weigh rs
        go true q =
            let v = walk L x.block (λ v. read_later L v below) climb rs 1 (L.header x.line) x.line [] [] in
            rw q (omega (arith, weigh-cons (record { item = x; act = v.act }) v.rows, walk-weight x.block (λ v. read_later L v below) x.line climb rs 1 (L.header x.line) x.line [] [] (made_none x.line)))
        go false q = rw q (omega (arith, weigh-cons (record { item = x; act = keep }) rs, made-keep x.line))

    rows-weight : (xs : List Item) (rs : List Row) → weigh (rows_of L xs rs) ≤ weighs w (lines_on xs) + weigh rs
    unfolding rows_of lines_on weighs
    rows-weight [] rs = omega arith
    rows-weight (x ∷ xs) rs = omega (arith, rows-weight xs (turn L x (lines_on xs) rs), turn-weight x (lines_on xs) rs)

    pub rebuilt-weight : (ls : List (List ℕ)) → weighs w (rebuild_calls L ls) ≤ weighs w ls
    unfolding weigh
    rebuilt-weight ls =
        omega (
          arith,
          ap (weighs w) (rebuilt L ls),
          weigh-standing (rows_of L (items_of ls (L.blocks ls)) []),
          rows-weight (items_of ls (L.blocks ls)) [],
          ap (weighs w) (items-on L ls (L.blocks ls)),
        )
