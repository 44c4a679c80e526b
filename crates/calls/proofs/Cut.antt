-- The law of demand 3 for rebuild_calls: a listing may be cut above a header, where the lines above it end shut. Assumes nothing.
use Prim.Native.Nat.{ℕ, zero, suc, ◌+◌}
use mathlib.Core.Path.{◌≡◌, refl, sym, ap, ◌∙◌, fun_ext}
use mathlib.Core.Bool.{Bool, true, false, cond, not, ◌&&◌, ◌||◌}
use mathlib.Core.List.{List, [], ◌∷◌, ◌++◌, append_assoc}
use native.Mathlib.Omega.{arith}
use lib.ListN.{length}
use lib.Dec.{eqb}
use Rattle.lines.specs.Acts.{Act, keep, become, into, gone, apply}
use Rattle.lines.proofs.ActLaws.{apply-append}
use Rattle.calls.specs.Leaves.{Leaves, Parsed, store, other}
use Rattle.calls.specs.Calls.{Item, Row, Walked, Step, end, skip, absorb, stop, pass, tries, settle_row, row_lines, lines_on, has, climb, made, on_step, items_of, acts_up, read_later, put_by, breaks_one, storeStep, stepAt, walk, turn, rows_of, rebuild_calls_acts, rebuild_calls}

abbrev kept : Item → Row
kept x = record { item = x; act = keep }

lines-append : (rs ss : List Row) → row_lines (rs ++ ss) ≡ row_lines rs ++ row_lines ss
unfolding row_lines
lines-append [] ss = refl
lines-append (r ∷ rs) ss = ap (λ (q : List (List ℕ)). r.item.line ∷ q) (lines-append rs ss)

on-append : (xs ys : List Item) → lines_on (xs ++ ys) ≡ lines_on xs ++ lines_on ys
unfolding lines_on
on-append [] ys = refl
on-append (x ∷ xs) ys = ap (λ (q : List (List ℕ)). x.line ∷ q) (on-append xs ys)

-- a step looks at the lines above its row only to ask whether the row starts a statement
module _ (L : Leaves) (b : ℕ) (later : ℕ → Bool) {above above' : List (List ℕ)} (q : L.starts above ≡ L.starts above') where
  store-above : (p : Parsed) (over : Bool) (cur : List ℕ) (lines : List (List ℕ)) (blk : ℕ) → storeStep L b later p over cur lines blk above ≡ storeStep L b later p over cur lines blk above'
  unfolding storeStep
  store-above other over cur lines blk = refl
  store-above (store v value) over cur lines blk =
      ap (λ (s : Bool). cond (not over && (eqb blk b && (s && (eqb (L.reads v cur) 1 && (not (later v) && not (breaks_one L value lines)))))) (put_by L (L.context cur v) cur v value) end) q

  step-above : (a : Act) (x : Item) (d : ℕ) (over : Bool) (cur took : List ℕ) (lines : List (List ℕ)) → stepAt L b later a x d over cur took lines above ≡ stepAt L b later a x d over cur took lines above'
  unfolding stepAt
  step-above (into n) x d over cur took lines = refl
  step-above gone x d over cur took lines = refl
  step-above keep x d over cur took lines = store-above (L.parse x.line) over cur lines x.block
  step-above (become t) x d over cur took lines = store-above (L.parse t) over cur lines x.block

-- one step of a walk, unfolded
pub walk_step : (L : Leaves) (b : ℕ) (later : ℕ → Bool) (left : ℕ) (r : Row) (rs : List Row) (d : ℕ) (over : Bool) (cur took : List ℕ) (lines : List (List ℕ))
    → walk L b later (suc left) (r ∷ rs) d over cur took lines
    ≡ on_step
    (stepAt L b later r.act r.item d over cur took lines (row_lines rs))
    (stop took cur (r ∷ rs))
    (pass r.item r.act (walk L b later left rs (suc d) (over || L.header r.item.line) cur took lines))
    (λ next. pass r.item (into d) (walk L b later left rs (suc d) (over || L.header r.item.line) next (d ∷ took) (r.item.line ∷ lines)))
unfolding walk
walk_step L b later left r rs d over cur took lines = refl

-- What the law asks of the leaves: a header is no store, and the look back for the start of a statement does not pass one, where the rows above it are good.
module _
    (L : Leaves)
    (header-other : (l : List ℕ) → L.header l ≡ true → L.parse l ≡ other)
    (Good : List Row → Type 0)
    (h : Item)
    (e : L.header h.line ≡ true)
    (starts-rows : (rs ss : List Row) → Good ss → L.starts (row_lines (rs ++ kept h ∷ ss)) ≡ L.starts (row_lines (rs ++ kept h ∷ [])))
  where
    -- a walk that starts below the header: whatever stands above the header, it leaves it, and it does the same
    record WalkCut (b : ℕ) (later : ℕ → Bool) (left : ℕ) (rs : List Row) (d : ℕ) (over : Bool) (cur took : List ℕ) (lines : List (List ℕ)) : Type 0 where
      act : Act
      rows : List Row
      is : (ss : List Row) → Good ss → walk L b later left (rs ++ kept h ∷ ss) d over cur took lines ≡ record { act = act; rows = rows ++ kept h ∷ ss }

    walk-cut : (b : ℕ) (later : ℕ → Bool) (left : ℕ) (rs : List Row) (d : ℕ) (over : Bool) (cur took : List ℕ) (lines : List (List ℕ)) → WalkCut b later left rs d over cur took lines
    unfolding walk
    walk-cut b later zero rs d over cur took lines = record { act = made took cur; rows = rs; is = λ ss g. refl }
    walk-cut b later (suc left) [] d over cur took lines = record { act = made took cur; rows = []; is = λ ss g. rw (header-other h.line e) }
    walk-cut b later (suc left) (r ∷ rs) d over cur took lines =
        go (stepAt L b later r.act r.item d over cur took lines (row_lines (rs ++ kept h ∷ [])))
        (λ ss g. step-above L b later (starts-rows rs ss g) r.act r.item d over cur took lines)
        (walk-cut b later left rs (suc d) (over || L.header r.item.line) cur took lines)
        (λ next. walk-cut b later left rs (suc d) (over || L.header r.item.line) next (d ∷ took) (r.item.line ∷ lines))
      where
        go : (s : Step)
            → ((ss : List Row) → Good ss → stepAt L b later r.act r.item d over cur took lines (row_lines (rs ++ kept h ∷ ss)) ≡ s)
            → WalkCut b later left rs (suc d) (over || L.header r.item.line) cur took lines
            → ((next : List ℕ) → WalkCut b later left rs (suc d) (over || L.header r.item.line) next (d ∷ took) (r.item.line ∷ lines))
            → WalkCut b later (suc left) (r ∷ rs) d over cur took lines
        go end q c k = record { act = made took cur; rows = r ∷ rs; is = λ ss g. walk_step L b later left r (rs ++ kept h ∷ ss) d over cur took lines ∙ rw (q ss g) }
        go skip q c k =
            record {
              act = c.act;
              rows = r ∷ c.rows;
              is = λ ss g. walk_step L b later left r (rs ++ kept h ∷ ss) d over cur took lines ∙ rw (q ss g) (ap (pass r.item r.act) (c.is ss g));
            }
        go (absorb next) q c k =
            record {
              act = (k next).act;
              rows = record { item = r.item; act = into d } ∷ (k next).rows;
              is = λ ss g. walk_step L b later left r (rs ++ kept h ∷ ss) d over cur took lines ∙ rw (q ss g) (ap (pass r.item (into d)) ((k next).is ss g));
            }

    record RowsCut (f : List Row → List Row) : Type 0 where
      rows : List Row
      is : (ss : List Row) → Good ss → f ss ≡ rows ++ kept h ∷ ss

    turn-cut : (x : Item) (below : List (List ℕ)) (rs : List Row) → RowsCut (λ ss. turn L x below (rs ++ kept h ∷ ss))
    unfolding turn
    turn-cut x below rs =
        go (tries L x.line (rs ++ kept h ∷ [])) (λ ss g. ap (λ (s : Bool). L.call x.line && (s && not (L.control x.line))) (starts-rows rs ss g))
        (walk-cut x.block (λ v. read_later L v below) climb rs 1 (L.header x.line) x.line [] [])
      where
        go : (t : Bool)
            → ((ss : List Row) → Good ss → tries L x.line (rs ++ kept h ∷ ss) ≡ t)
            → WalkCut x.block (λ v. read_later L v below) climb rs 1 (L.header x.line) x.line [] []
            → RowsCut (λ ss. turn L x below (rs ++ kept h ∷ ss))
        go true q c = record { rows = record { item = x; act = c.act } ∷ c.rows; is = λ ss g. rw (q ss g) (ap (settle_row L x) (c.is ss g)) }
        go false q c = record { rows = kept x ∷ rs; is = λ ss g. rw (q ss g) }

    rows_cut : (xs : List Item) (rs : List Row) → RowsCut (λ ss. rows_of L xs (rs ++ kept h ∷ ss))
    unfolding rows_of
    rows_cut [] rs = record { rows = rs; is = λ ss g. refl }
    rows_cut (x ∷ xs) rs =
        let c = turn-cut x (lines_on xs) rs in
        let k = rows_cut xs c.rows in
        record { rows = k.rows; is = λ ss g. ap (rows_of L xs) (c.is ss g) ∙ k.is ss g }

    -- the header itself takes nothing: the line above it is in another region
    over-end : (b : ℕ) (later : ℕ → Bool) (p : Parsed) (cur : List ℕ) (lines : List (List ℕ)) (blk : ℕ) (above : List (List ℕ)) → storeStep L b later p true cur lines blk above ≡ end
    unfolding storeStep
    over-end b later other cur lines blk above = refl
    over-end b later (store v value) cur lines blk above = refl

    over-step : (b : ℕ) (later : ℕ → Bool) (a : Act) (x : Item) (d : ℕ) (cur : List ℕ) (lines above : List (List ℕ)) → stepAt L b later a x d true cur [] lines above ≡ end
    unfolding stepAt has
    over-step b later (into n) x d cur lines above = refl
    over-step b later gone x d cur lines above = refl
    over-step b later keep x d cur lines above = over-end b later (L.parse x.line) cur lines x.block above
    over-step b later (become t) x d cur lines above = over-end b later (L.parse t) cur lines x.block above

    over-walk : (b : ℕ) (later : ℕ → Bool) (left : ℕ) (rs : List Row) (d : ℕ) (cur : List ℕ) → walk L b later left rs d true cur [] [] ≡ record { act = keep; rows = rs }
    unfolding walk made
    over-walk b later zero rs d cur = refl
    over-walk b later (suc left) [] d cur = refl
    over-walk b later (suc left) (r ∷ rs) d cur = walk_step L b later left r rs d true cur [] [] ∙ rw (over-step b later r.act r.item d cur [] (row_lines rs))

    turn-head : (below : List (List ℕ)) (rs : List Row) → turn L h below rs ≡ kept h ∷ rs
    unfolding turn
    turn-head below rs = go (tries L h.line rs) refl
      where
        go : (t : Bool) → tries L h.line rs ≡ t → turn L h below rs ≡ kept h ∷ rs
        go true q = rw (q, e) (ap (settle_row L h) (over-walk h.block (λ v. read_later L v below) climb rs 1 h.line))
        go false q = rw q

    -- the look down from the upper part ends at the header
    later-upper : (v : ℕ) (us ts : List (List ℕ)) → read_later L v (us ++ h.line ∷ ts) ≡ read_later L v us
    unfolding read_later
    later-upper v [] ts = rw e
    later-upper v (l ∷ us) ts = rw (later-upper v us ts)

    turn-upper : (x : Item) (us ts : List (List ℕ)) (rs : List Row) → turn L x (us ++ h.line ∷ ts) rs ≡ turn L x us rs
    unfolding turn
    turn-upper x us ts rs =
        ap
        (λ (f : ℕ → Bool). cond (tries L x.line rs) (settle_row L x (walk L x.block f climb rs 1 (L.header x.line) x.line [] [])) (kept x ∷ rs))
        (fun_ext (λ v. later-upper v us ts))

    rows-upper : (us ts : List Item) (rs : List Row) → rows_of L (us ++ h ∷ ts) rs ≡ rows_of L ts (kept h ∷ rows_of L us rs)
    unfolding rows_of lines_on
    rows-upper [] ts rs = ap (rows_of L ts) (turn-head (lines_on ts) rs)
    rows-upper (x ∷ us) ts rs =
        ap (λ (q : List (List ℕ)). rows_of L (us ++ h ∷ ts) (turn L x q rs)) (on-append us (h ∷ ts))
        ∙ ap (rows_of L (us ++ h ∷ ts)) (turn-upper x (lines_on us) (lines_on ts) rs)
        ∙ rows-upper us ts (turn L x (lines_on us) rs)

    -- the law over rows, the nearest first
    pub rows-law : (us ts : List Item) → Good (rows_of L us []) → Good [] → rows_of L (us ++ h ∷ ts) [] ≡ rows_of L (h ∷ ts) [] ++ rows_of L us []
    unfolding rows_of
    rows-law us ts gu gn =
        let c = rows_cut ts [] in
        rows-upper us ts []
        ∙ c.is (rows_of L us []) gu
        ∙ sym (append_assoc c.rows (kept h ∷ []) (rows_of L us []))
        ∙ ap (λ (q : List Row). q ++ rows_of L us []) (sym (ap (rows_of L ts) (turn-head (lines_on ts) []) ∙ c.is [] gn))

-- ---- from rows to acts

pub acts-more : (rs : List Row) (more : List Act) → acts_up rs more ≡ acts_up rs [] ++ more
unfolding acts_up
acts-more [] more = refl
acts-more (r ∷ rs) more =
    acts-more rs (r.act ∷ more)
    ∙ sym (append_assoc (acts_up rs []) (r.act ∷ []) more)
    ∙ ap (λ (q : List Act). q ++ more) (sym (acts-more rs (r.act ∷ [])))

acts-append : (rs ss : List Row) (more : List Act) → acts_up (rs ++ ss) more ≡ acts_up ss (acts_up rs more)
unfolding acts_up
acts-append [] ss more = refl
acts-append (r ∷ rs) ss more = acts-append rs ss (r.act ∷ more)

pub acts-length : (rs : List Row) (more : List Act) → length (acts_up rs more) ≡ length rs + length more
unfolding acts_up
acts-length [] more = omega arith
acts-length (r ∷ rs) more = acts-length rs (r.act ∷ more) ∙ omega arith

-- a row for each line
module _ (L : Leaves) where
  walk-length : (b : ℕ) (later : ℕ → Bool) (left : ℕ) (rs : List Row) (d : ℕ) (over : Bool) (cur took : List ℕ) (lines : List (List ℕ))
      → length (walk L b later left rs d over cur took lines).rows ≡ length rs
  unfolding walk
  walk-length b later zero rs d over cur took lines = refl
  walk-length b later (suc left) [] d over cur took lines = refl
  walk-length b later (suc left) (r ∷ rs) d over cur took lines =
      go (stepAt L b later r.act r.item d over cur took lines (row_lines rs)) refl
      (walk-length b later left rs (suc d) (over || L.header r.item.line) cur took lines)
      (λ next. walk-length b later left rs (suc d) (over || L.header r.item.line) next (d ∷ took) (r.item.line ∷ lines))
    where
      go : (s : Step)
          → stepAt L b later r.act r.item d over cur took lines (row_lines rs) ≡ s
          → length (walk L b later left rs (suc d) (over || L.header r.item.line) cur took lines).rows ≡ length rs
          → ((next : List ℕ) → length (walk L b later left rs (suc d) (over || L.header r.item.line) next (d ∷ took) (r.item.line ∷ lines)).rows ≡ length rs)
          → length (walk L b later (suc left) (r ∷ rs) d over cur took lines).rows ≡ suc (length rs)
      go end q c k = ap (λ (w : Walked). length w.rows) (walk_step L b later left r rs d over cur took lines) ∙ rw q
      go skip q c k = ap (λ (w : Walked). length w.rows) (walk_step L b later left r rs d over cur took lines) ∙ rw q (ap suc c)
      go (absorb next) q c k = ap (λ (w : Walked). length w.rows) (walk_step L b later left r rs d over cur took lines) ∙ rw q (ap suc (k next))

  turn-length : (x : Item) (below : List (List ℕ)) (rs : List Row) → length (turn L x below rs) ≡ suc (length rs)
  unfolding turn
  turn-length x below rs = go (tries L x.line rs) refl
    where
      go : (t : Bool) → tries L x.line rs ≡ t → length (turn L x below rs) ≡ suc (length rs)
      go true q = rw q (ap suc (walk-length x.block (λ v. read_later L v below) climb rs 1 (L.header x.line) x.line [] []))
      go false q = rw q

  rows-length : (xs : List Item) (rs : List Row) → length (rows_of L xs rs) ≡ length xs + length rs
  unfolding rows_of
  rows-length [] rs = omega arith
  rows-length (x ∷ xs) rs = rows-length xs (turn L x (lines_on xs) rs) ∙ omega (arith, turn-length x (lines_on xs) rs)

items-length : (ls : List (List ℕ)) (bs : List ℕ) → length (items_of ls bs) ≡ length ls
unfolding items_of
items-length [] bs = refl
items-length (l ∷ ls) [] = ap suc (items-length ls [])
items-length (l ∷ ls) (b ∷ bs) = ap suc (items-length ls bs)

items-append : (us ts : List (List ℕ)) (bs cs : List ℕ) → length bs ≡ length us → items_of (us ++ ts) (bs ++ cs) ≡ items_of us bs ++ items_of ts cs
unfolding items_of
items-append [] ts [] cs q = refl
items-append [] ts (b ∷ bs) cs q = absurd (omega arith)
items-append (l ∷ us) ts [] cs q = absurd (omega arith)
items-append (l ∷ us) ts (b ∷ bs) cs q = ap (λ (k : List Item). record { line = l; block = b } ∷ k) (items-append us ts bs cs (omega arith))

-- ---- blocks under other numbers

unfoldable pub renamed : (ℕ → ℕ) → List ℕ → List ℕ
renamed f [] = []
renamed f (b ∷ bs) = f b ∷ renamed f bs

abbrev re_item : (ℕ → ℕ) → Item → Item
re_item f x = record { line = x.line; block = f x.block }

abbrev re_row : (ℕ → ℕ) → Row → Row
re_row f r = record { item = re_item f r.item; act = r.act }

unfoldable re_items : (ℕ → ℕ) → List Item → List Item
re_items f [] = []
re_items f (x ∷ xs) = re_item f x ∷ re_items f xs

unfoldable re_rows : (ℕ → ℕ) → List Row → List Row
re_rows f [] = []
re_rows f (r ∷ rs) = re_row f r ∷ re_rows f rs

abbrev re_walked : (ℕ → ℕ) → Walked → Walked
re_walked f w = record { act = w.act; rows = re_rows f w.rows }

module _ (L : Leaves) (f : ℕ → ℕ) (one : (x y : ℕ) → eqb (f x) (f y) ≡ eqb x y) where
  re-lines : (rs : List Row) → row_lines (re_rows f rs) ≡ row_lines rs
  unfolding row_lines re_rows
  re-lines [] = refl
  re-lines (r ∷ rs) = ap (λ (q : List (List ℕ)). r.item.line ∷ q) (re-lines rs)

  re-on : (xs : List Item) → lines_on (re_items f xs) ≡ lines_on xs
  unfolding lines_on re_items
  re-on [] = refl
  re-on (x ∷ xs) = ap (λ (q : List (List ℕ)). x.line ∷ q) (re-on xs)

  re-acts : (rs : List Row) (more : List Act) → acts_up (re_rows f rs) more ≡ acts_up rs more
  unfolding acts_up re_rows
  re-acts [] more = refl
  re-acts (r ∷ rs) more = re-acts rs (r.act ∷ more)

  re-store : (b : ℕ) (later : ℕ → Bool) (p : Parsed) (over : Bool) (cur : List ℕ) (lines : List (List ℕ)) (blk : ℕ) (above : List (List ℕ))
      → storeStep L (f b) later p over cur lines (f blk) above ≡ storeStep L b later p over cur lines blk above
  unfolding storeStep
  re-store b later other over cur lines blk above = refl
  re-store b later (store v value) over cur lines blk above =
      ap (λ (s : Bool). cond (not over && (s && (L.starts above && (eqb (L.reads v cur) 1 && (not (later v) && not (breaks_one L value lines)))))) (put_by L (L.context cur v) cur v value) end) (one blk b)

  re-step : (b : ℕ) (later : ℕ → Bool) (a : Act) (x : Item) (d : ℕ) (over : Bool) (cur took : List ℕ) (lines above : List (List ℕ))
      → stepAt L (f b) later a (re_item f x) d over cur took lines above ≡ stepAt L b later a x d over cur took lines above
  unfolding stepAt
  re-step b later (into n) x d over cur took lines above = refl
  re-step b later gone x d over cur took lines above = refl
  re-step b later keep x d over cur took lines above = re-store b later (L.parse x.line) over cur lines x.block above
  re-step b later (become t) x d over cur took lines above = re-store b later (L.parse t) over cur lines x.block above

  re-walk : (b : ℕ) (later : ℕ → Bool) (left : ℕ) (rs : List Row) (d : ℕ) (over : Bool) (cur took : List ℕ) (lines : List (List ℕ))
      → walk L (f b) later left (re_rows f rs) d over cur took lines ≡ re_walked f (walk L b later left rs d over cur took lines)
  unfolding walk re_rows
  re-walk b later zero rs d over cur took lines = refl
  re-walk b later (suc left) [] d over cur took lines = refl
  re-walk b later (suc left) (r ∷ rs) d over cur took lines =
      go (stepAt L b later r.act r.item d over cur took lines (row_lines rs)) refl
      (re-walk b later left rs (suc d) (over || L.header r.item.line) cur took lines)
      (λ next. re-walk b later left rs (suc d) (over || L.header r.item.line) next (d ∷ took) (r.item.line ∷ lines))
    where
      go : (s : Step)
          → stepAt L b later r.act r.item d over cur took lines (row_lines rs) ≡ s
          → walk L (f b) later left (re_rows f rs) (suc d) (over || L.header r.item.line) cur took lines ≡ re_walked f (walk L b later left rs (suc d) (over || L.header r.item.line) cur took lines)
          → ((next : List ℕ) → walk L (f b) later left (re_rows f rs) (suc d) (over || L.header r.item.line) next (d ∷ took) (r.item.line ∷ lines) ≡ re_walked f (walk L b later left rs (suc d) (over || L.header r.item.line) next (d ∷ took) (r.item.line ∷ lines)))
          → walk L (f b) later (suc left) (re_row f r ∷ re_rows f rs) d over cur took lines ≡ re_walked f (walk L b later (suc left) (r ∷ rs) d over cur took lines)
      go s q c k =
          walk_step L (f b) later left (re_row f r) (re_rows f rs) d over cur took lines
          ∙ by s (ap (stepAt L (f b) later r.act (re_item f r.item) d over cur took lines) (re-lines rs) ∙ re-step b later r.act r.item d over cur took lines (row_lines rs) ∙ q) q
          ∙ sym (ap (re_walked f) (walk_step L b later left r rs d over cur took lines))
        where
          by : (s : Step)
              → stepAt L (f b) later r.act (re_item f r.item) d over cur took lines (row_lines (re_rows f rs)) ≡ s
              → stepAt L b later r.act r.item d over cur took lines (row_lines rs) ≡ s
              → on_step
              (stepAt L (f b) later r.act (re_item f r.item) d over cur took lines (row_lines (re_rows f rs)))
              (stop took cur (re_row f r ∷ re_rows f rs))
              (pass (re_item f r.item) r.act (walk L (f b) later left (re_rows f rs) (suc d) (over || L.header r.item.line) cur took lines))
              (λ next. pass (re_item f r.item) (into d) (walk L (f b) later left (re_rows f rs) (suc d) (over || L.header r.item.line) next (d ∷ took) (r.item.line ∷ lines)))
              ≡ re_walked f (on_step
              (stepAt L b later r.act r.item d over cur took lines (row_lines rs))
              (stop took cur (r ∷ rs))
              (pass r.item r.act (walk L b later left rs (suc d) (over || L.header r.item.line) cur took lines))
              (λ next. pass r.item (into d) (walk L b later left rs (suc d) (over || L.header r.item.line) next (d ∷ took) (r.item.line ∷ lines))))
          by end p p' = rw (p, p')
          by skip p p' = rw (p, p') (ap (pass (re_item f r.item) r.act) c)
          by (absorb next) p p' = rw (p, p') (ap (pass (re_item f r.item) (into d)) (k next))

  re-turn : (x : Item) (below : List (List ℕ)) (rs : List Row) → turn L (re_item f x) below (re_rows f rs) ≡ re_rows f (turn L x below rs)
  unfolding turn re_rows
  re-turn x below rs = go (tries L x.line rs) refl
    where
      go : (t : Bool) → tries L x.line rs ≡ t → turn L (re_item f x) below (re_rows f rs) ≡ re_rows f (turn L x below rs)
      go true q = rw (re-lines rs, q) (ap (settle_row L (re_item f x)) (re-walk x.block (λ v. read_later L v below) climb rs 1 (L.header x.line) x.line [] []))
      go false q = rw (re-lines rs, q)

  re-rows : (xs : List Item) (rs : List Row) → rows_of L (re_items f xs) (re_rows f rs) ≡ re_rows f (rows_of L xs rs)
  unfolding rows_of re_items
  re-rows [] rs = refl
  re-rows (x ∷ xs) rs =
      ap (λ (q : List (List ℕ)). rows_of L (re_items f xs) (turn L (re_item f x) q (re_rows f rs))) (re-on xs)
      ∙ ap (rows_of L (re_items f xs)) (re-turn x (lines_on xs) rs)
      ∙ re-rows xs (turn L x (lines_on xs) rs)

  re-items : (ls : List (List ℕ)) (bs : List ℕ) → length bs ≡ length ls → items_of ls (renamed f bs) ≡ re_items f (items_of ls bs)
  unfolding items_of re_items renamed
  re-items [] bs q = refl
  re-items (l ∷ ls) [] q = absurd (omega arith)
  re-items (l ∷ ls) (b ∷ bs) q = ap (λ (k : List Item). record { line = l; block = f b } ∷ k) (re-items ls bs (omega arith))

-- ---- the law

-- the first line is a header
unfoldable pub headed : Leaves → List (List ℕ) → Bool
headed L [] = false
headed L (l ∷ ls) = L.header l

-- the lines of a listing as the rows have them, the nearest first
abbrev pub rows_up : Leaves → List (List ℕ) → List (List ℕ)
rows_up L ls = row_lines (rows_of L (items_of ls (L.blocks ls)) [])

-- what the law asks of the leaves; the lines that may be `shut` are given the nearest first
pub record Cuttable (L : Leaves) : Type 0 where
  pub header-other : (l : List ℕ) → L.header l ≡ true → L.parse l ≡ other
  pub shut : List (List ℕ) → Bool
  pub shut_none : shut [] ≡ true
  pub starts-above : (xs : List (List ℕ)) (l : List ℕ) (ys : List (List ℕ)) → L.header l ≡ true → shut ys ≡ true → L.starts (xs ++ l ∷ ys) ≡ L.starts (xs ++ l ∷ [])
  pub blocks-length : (ls : List (List ℕ)) → length (L.blocks ls) ≡ length ls

-- the tail's blocks are those of the tail alone, under other numbers: what the brace condition gives
pub record Renumbered (L : Leaves) (upper tail : List (List ℕ)) : Type 0 where
  pub name : ℕ → ℕ
  pub one : (x y : ℕ) → eqb (name x) (name y) ≡ eqb x y
  pub blocks : L.blocks (upper ++ tail) ≡ L.blocks upper ++ renamed name (L.blocks tail)

module _ (L : Leaves) (c : Cuttable L) where
  -- rows whose lines end shut are good
  abbrev Good : List Row → Type 0
  Good ss = c.shut (row_lines ss) ≡ true

  starts-rows : (h : Item) → L.header h.line ≡ true → (rs ss : List Row) → Good ss → L.starts (row_lines (rs ++ kept h ∷ ss)) ≡ L.starts (row_lines (rs ++ kept h ∷ []))
  unfolding row_lines
  starts-rows h e rs ss g =
      ap L.starts (lines-append rs (kept h ∷ ss))
      ∙ c.starts-above (row_lines rs) h.line (row_lines ss) e g
      ∙ sym (ap L.starts (lines-append rs (kept h ∷ [])))

  good_none : Good []
  unfolding row_lines
  good_none = c.shut_none

  items-law : (f : ℕ → ℕ) → ((x y : ℕ) → eqb (f x) (f y) ≡ eqb x y) → (us : List Item) (h : Item) (ts : List Item) → L.header h.line ≡ true → Good (rows_of L us [])
      → acts_up (rows_of L (us ++ re_items f (h ∷ ts)) []) [] ≡ acts_up (rows_of L us []) [] ++ acts_up (rows_of L (h ∷ ts) []) []
  unfolding re_items re_rows
  items-law f one us h ts e g =
      ap (λ (rs : List Row). acts_up rs []) (rows-law L c.header-other Good (re_item f h) e (starts-rows (re_item f h) e) us (re_items f ts) g good_none)
      ∙ ap (λ (rs : List Row). acts_up (rs ++ rows_of L us []) []) (re-rows L f one (h ∷ ts) [])
      ∙ acts-append (re_rows f (rows_of L (h ∷ ts) [])) (rows_of L us []) []
      ∙ ap (acts_up (rows_of L us [])) (re-acts L f one (rows_of L (h ∷ ts) []) [])
      ∙ acts-more (rows_of L us []) (acts_up (rows_of L (h ∷ ts) []) [])

  tail-law : (f : ℕ → ℕ) → ((x y : ℕ) → eqb (f x) (f y) ≡ eqb x y) → (us : List Item) (tail : List (List ℕ)) (bs : List ℕ) → length bs ≡ length tail → headed L tail ≡ true → Good (rows_of L us [])
      → acts_up (rows_of L (us ++ re_items f (items_of tail bs)) []) [] ≡ acts_up (rows_of L us []) [] ++ acts_up (rows_of L (items_of tail bs) []) []
  unfolding headed items_of
  tail-law f one us [] bs q e g = cc
  tail-law f one us (l ∷ ls) [] q e g = absurd (omega arith)
  tail-law f one us (l ∷ ls) (b ∷ bs) q e g = items-law f one us (record { line = l; block = b }) (items_of ls bs) e g

  pub acts-law : (upper tail : List (List ℕ)) → headed L tail ≡ true → c.shut (rows_up L upper) ≡ true → Renumbered L upper tail → rebuild_calls_acts L (upper ++ tail) ≡ rebuild_calls_acts L upper ++ rebuild_calls_acts L tail
  unfolding rebuild_calls_acts
  acts-law upper tail e g n =
      ap (λ (bs : List ℕ). acts_up (rows_of L (items_of (upper ++ tail) bs) []) []) n.blocks
      ∙ ap (λ (xs : List Item). acts_up (rows_of L xs []) []) (items-append upper tail (L.blocks upper) (renamed n.name (L.blocks tail)) (c.blocks-length upper))
      ∙ ap (λ (xs : List Item). acts_up (rows_of L (items_of upper (L.blocks upper) ++ xs) []) []) (re-items L n.name n.one tail (L.blocks tail) (c.blocks-length tail))
      ∙ tail-law n.name n.one (items_of upper (L.blocks upper)) tail (L.blocks tail) (c.blocks-length tail) e g

  pub rebuilt-length : (ls : List (List ℕ)) → length (rebuild_calls_acts L ls) ≡ length ls
  unfolding rebuild_calls_acts
  rebuilt-length ls =
      acts-length (rows_of L (items_of ls (L.blocks ls)) []) []
      ∙ omega (arith, rows-length L (items_of ls (L.blocks ls)) [], items-length ls (L.blocks ls))

  -- demand 3 for rebuild_calls
  pub cut-law : (upper tail : List (List ℕ)) → headed L tail ≡ true → c.shut (rows_up L upper) ≡ true → Renumbered L upper tail → rebuild_calls L (upper ++ tail) ≡ rebuild_calls L upper ++ rebuild_calls L tail
  unfolding rebuild_calls
  cut-law upper tail e g n =
      ap (λ (r : List Act). apply r (upper ++ tail)) (acts-law upper tail e g n)
      ∙ apply-append (rebuild_calls_acts L upper) upper (rebuild_calls_acts L tail) tail (rebuilt-length upper)
