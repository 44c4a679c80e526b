-- What the tables tell of the rows above a line, and that a walk leaves it so. Assumes nothing.
use Prim.Native.Nat.{ℕ, zero, suc, ◌-◌, ◌≤◌, ◌<◌}
use mathlib.Core.Path.{◌≡◌, refl, sym, ap, ◌∙◌, subst}
use mathlib.Core.Bool.{Bool, true, false, cond, not, ◌&&◌, ◌||◌}
use mathlib.Core.List.{List, [], ◌∷◌, ◌++◌, append_assoc, append-nil, reverse}
use native.Mathlib.Omega.{arith}
use lib.Dec.{eqb}
use lib.ListN.{length, take, drop, get_or}
use lib.Seq.{length-take-le}
use Rattle.lines.specs.Lf.{lines_of}
use Rattle.lines.specs.Inner.Lf.{lacks, no_lf}
use Rattle.lines.specs.Acts.{Act, keep, become, into, gone, act}
use Rattle.lines.proofs.LfLaws.{lacks-take, lacks-drop, lines-no_lf}
use Rattle.lines.proofs.Tests.{and_left, and_right}
use Rattle.parse.specs.declared.Store.{Store}
use Rattle.words.proofs.Places.{replace-lacks}
use Rattle.forms.specs.Primary.{paren_if_needed}
use Rattle.forms.proofs.PrimaryLaws.{paren-lacks}
use Rattle.place.specs.Region.{is_header}
use Rattle.calls.specs.Leaves.{Leaves, Parsed, store, other}
use Rattle.calls.specs.Calls.{Item, Row, Step, end, skip, absorb, tries, row_lines, lines_on, has, climb, made, items_of, read_later, breaks_one, put_by, storeStep, stepAt, walk, turn, rows_of}
use Rattle.calls.specs.Inner.Tables.{owner_of, tabled, rows_to, walk_from, items_in, rows_at, walk_at, line_at, Placed}
use Rattle.calls.proofs.Cut.{walk_step}
use Rattle.calls.proofs.Edges.{given, given-length, walk-given, turn-given, items-on}
use Rattle.calls.proofs.Owners.{owned, turn-owned}
use Rattle.calls.proofs.Room.{Valued, valued, Put, put_is}
use Rattle.calls.proofs.Stacks.{lines-given, lines-many}
use Rattle.calls.proofs.Weight.{code, apart}

-- ---- a step that absorbs

-- the row stands as t, which is a store, and its value was put in
pub record Absorbs (L : Leaves) (a : Act) (l cur next : List ℕ) : Type 0 where
  pub t : List ℕ
  pub stands : act a l ≡ t ∷ []
  pub reg : ℕ
  pub value : List ℕ
  pub parses : L.parse t ≡ store reg value
  pub puts : put_by L (L.context cur reg) cur reg value ≡ absorb next

module _ (L : Leaves) (b : ℕ) (later : ℕ → Bool) where
  store-absorbs : (a : Act) (l t : List ℕ) → act a l ≡ t ∷ [] → (p : Parsed) → L.parse t ≡ p → (over : Bool) (cur : List ℕ) (lines : List (List ℕ)) (blk : ℕ) (above : List (List ℕ))
      (next : List ℕ) → storeStep L b later p over cur lines blk above ≡ absorb next → Absorbs L a l cur next
  unfolding storeStep code
  store-absorbs a l t s other p over cur lines blk above next q = apart end next (λ e. omega arith) q
  store-absorbs a l t s (store v value) p over cur lines blk above next q =
      go (not over && (eqb blk b && (L.starts above && (eqb (L.reads v cur) 1 && (not (later v) && not (breaks_one L value lines)))))) q
    where
      go : (x : Bool) → cond x (put_by L (L.context cur v) cur v value) end ≡ absorb next → Absorbs L a l cur next
      go true k = record { t = t; stands = s; reg = v; value = value; parses = p; puts = k }
      go false k = apart end next (λ e. omega arith) k

  pub step-absorbs : (a : Act) (x : Item) (d : ℕ) (over : Bool) (cur took : List ℕ) (lines above : List (List ℕ)) (next : List ℕ)
      → stepAt L b later a x d over cur took lines above ≡ absorb next → Absorbs L a x.line cur next
  unfolding stepAt code act
  step-absorbs (into n) x d over cur took lines above next q = go (has (d - n) took) q
    where
      go : (s : Bool) → cond s skip end ≡ absorb next → Absorbs L (into n) x.line cur next
      go true k = apart skip next (λ e. omega arith) k
      go false k = apart end next (λ e. omega arith) k
  step-absorbs gone x d over cur took lines above next q = apart end next (λ e. omega arith) q
  step-absorbs keep x d over cur took lines above next q = store-absorbs keep x.line x.line refl (L.parse x.line) refl over cur lines x.block above next q
  step-absorbs (become t) x d over cur took lines above next q = store-absorbs (become t) x.line t refl (L.parse t) refl over cur lines x.block above next q

-- ---- acts that a walk can leave

-- a text that a line becomes has no LF, an owner stands below, and no line is gone
unfoldable pub GoodAct : Act → Type 0
GoodAct keep = Unit
GoodAct (become t) = lacks 10 t ≡ true
GoodAct (into n) = 1 ≤ n
GoodAct gone = ⊥

-- a row that has no owner stands
pub record Upright (a : Act) (l : List ℕ) : Type 0 where
  pub text : List ℕ
  pub is : act a l ≡ text ∷ []
  pub clear : lacks 10 text ≡ true

pub upright : (a : Act) (l : List ℕ) → GoodAct a → lacks 10 l ≡ true → owner_of a ≡ 0 → Upright a l
unfolding GoodAct owner_of act
upright keep l g h e = record { text = l; is = refl; clear = h }
upright (become t) l g h e = record { text = t; is = refl; clear = g }
upright (into n) l g h e = absurd (omega (arith, g))
upright gone l g h e = absurd g

-- one that has an owner went there
pub went : (a : Act) (n : ℕ) → owner_of a ≡ suc n → a ≡ into (suc n)
unfolding owner_of
went keep n e = absurd (omega arith)
went (become t) n e = absurd (omega arith)
went (into m) n e = ap into e
went gone n e = absurd (omega arith)

made-good : (took cur : List ℕ) → lacks 10 cur ≡ true → GoodAct (made took cur)
unfolding GoodAct made
made-good [] cur h = tt
made-good (d ∷ took) cur h = h

put-lacks : (cur t : List ℕ) (v : ℕ) (value next : List ℕ) → Valued t v value → Put cur v value next → lacks 10 cur ≡ true → lacks 10 t ≡ true → lacks 10 next ≡ true
put-lacks cur t v value next h p c k =
    let s : Store = h.place in
    let a : lacks 10 value ≡ true = ap (lacks 10) h.text ∙ lacks-take (s.to - s.from) (drop s.from t) (lacks-drop s.from t k) in
    ap (lacks 10) p.is ∙ replace-lacks p.span.from p.span.to cur (paren_if_needed value p.after) c (paren-lacks value p.after a)

-- the text that a row stands as has no LF
stands-lacks : (a : Act) (l t : List ℕ) → GoodAct a → lacks 10 l ≡ true → act a l ≡ t ∷ [] → lacks 10 t ≡ true
unfolding GoodAct act
stands-lacks keep l t g h e = let z : l ≡ t = cc in ap (lacks 10) (sym z) ∙ h
stands-lacks (become x) l t g h e = let z : x ≡ t = cc in ap (lacks 10) (sym z) ∙ g
stands-lacks (into n) l t g h e = let z : ◌≡◌ {A = ℕ} 0 1 = cc in absurd (omega arith)
stands-lacks gone l t g h e = absurd g

absorbs-lacks : (bs fs : List ℕ) {a : Act} {l cur next : List ℕ} → Absorbs (tabled bs fs) a l cur next → GoodAct a → lacks 10 l ≡ true → lacks 10 cur ≡ true → lacks 10 next ≡ true
absorbs-lacks bs fs {a} {l} {cur} {next} p g h k =
    put-lacks cur p.t p.reg p.value next (valued p.t p.reg p.value p.parses) (put_is (tabled bs fs).starts (tabled bs fs).blocks cur p.reg p.value next p.puts) k (stands-lacks a l p.t g h p.stands)

-- ---- what the tables tell of rows

-- of a line below the lines `above`, the nearest first
pub record RowTold (bs fs : List ℕ) (x : Item) (above : List (List ℕ)) : Type 0 where
  pub clear : lacks 10 x.line ≡ true
  pub block : get_or bs (length above) 0 ≡ x.block
  pub b< : length above < length bs
  pub f< : length above < length fs

unfoldable pub Told : List ℕ → List ℕ → List Row → Type 0
Told bs fs [] = Unit
Told bs fs (r ∷ rs) = RowTold bs fs r.item (row_lines rs) × (GoodAct r.act × Told bs fs rs)

module _ (L : Leaves) where
  pub walk-lines : (b : ℕ) (later : ℕ → Bool) (left : ℕ) (rs : List Row) (d : ℕ) (over : Bool) (cur took : List ℕ) (lines : List (List ℕ))
      → row_lines (walk L b later left rs d over cur took lines).rows ≡ row_lines rs
  walk-lines b later left rs d over cur took lines =
      lines-given (walk L b later left rs d over cur took lines).rows ∙ ap reverse (walk-given L b later left rs d over cur took lines) ∙ sym (lines-given rs)

  pub turn_lines : (x : Item) (below : List (List ℕ)) (rs : List Row) → row_lines (turn L x below rs) ≡ x.line ∷ row_lines rs
  unfolding row_lines given
  turn_lines x below rs =
      lines-given (turn L x below rs) ∙ ap reverse (turn-given L x below rs) ∙ sym (lines-given (record { item = x; act = keep } ∷ rs))

module _ (bs fs : List ℕ) where
  walk-told : (b : ℕ) (later : ℕ → Bool) (left : ℕ) (rs : List Row) (d : ℕ) (over : Bool) (cur took : List ℕ) (lines : List (List ℕ))
      → Told bs fs rs → lacks 10 cur ≡ true → 1 ≤ d
      → GoodAct (walk (tabled bs fs) b later left rs d over cur took lines).act × Told bs fs (walk (tabled bs fs) b later left rs d over cur took lines).rows
  unfolding walk Told GoodAct
  walk-told b later zero rs d over cur took lines h k u = (made-good took cur k, h)
  walk-told b later (suc left) [] d over cur took lines h k u = (made-good took cur k, h)
  walk-told b later (suc left) (r ∷ rs) d over cur took lines h k u =
      go (stepAt (tabled bs fs) b later r.act r.item d over cur took lines (row_lines rs)) refl
      (walk-told b later left rs (suc d) (over || is_header r.item.line) cur took lines h.1.1 k (omega arith))
      (λ next q. walk-told b later left rs (suc d) (over || is_header r.item.line) next (d ∷ took) (r.item.line ∷ lines) h.1.1 q (omega arith))
    where
      go : (s : Step)
          → stepAt (tabled bs fs) b later r.act r.item d over cur took lines (row_lines rs) ≡ s
          → GoodAct (walk (tabled bs fs) b later left rs (suc d) (over || is_header r.item.line) cur took lines).act × Told bs fs (walk (tabled bs fs) b later left rs (suc d) (over || is_header r.item.line) cur took lines).rows
          → ((next : List ℕ) → lacks 10 next ≡ true → GoodAct (walk (tabled bs fs) b later left rs (suc d) (over || is_header r.item.line) next (d ∷ took) (r.item.line ∷ lines)).act × Told bs fs (walk (tabled bs fs) b later left rs (suc d) (over || is_header r.item.line) next (d ∷ took) (r.item.line ∷ lines)).rows)
          → GoodAct (walk (tabled bs fs) b later (suc left) (r ∷ rs) d over cur took lines).act × Told bs fs (walk (tabled bs fs) b later (suc left) (r ∷ rs) d over cur took lines).rows
      go end q c m = rw (walk_step (tabled bs fs) b later left r rs d over cur took lines, q) (made-good took cur k, h)
      go skip q c m =
          rw (walk_step (tabled bs fs) b later left r rs d over cur took lines, q)
          (c.0, (rw (walk-lines (tabled bs fs) b later left rs (suc d) (over || is_header r.item.line) cur took lines) h.0, (h.1.0, c.1)))
      go (absorb next) q c m =
          let w = m next (absorbs-lacks bs fs (step-absorbs (tabled bs fs) b later r.act r.item d over cur took lines (row_lines rs) next q) h.1.0 h.0.clear k) in
          rw (walk_step (tabled bs fs) b later left r rs d over cur took lines, q)
          (w.0, (rw (walk-lines (tabled bs fs) b later left rs (suc d) (over || is_header r.item.line) next (d ∷ took) (r.item.line ∷ lines)) h.0, (u, w.1)))

  turn-told : (x : Item) (below : List (List ℕ)) (rs : List Row) → Told bs fs rs → RowTold bs fs x (row_lines rs) → Told bs fs (turn (tabled bs fs) x below rs)
  unfolding turn Told GoodAct
  turn-told x below rs h k = go (tries (tabled bs fs) x.line rs) refl
    where
      go : (t : Bool) → tries (tabled bs fs) x.line rs ≡ t → Told bs fs (turn (tabled bs fs) x below rs)
      go true q =
          let w = walk-told x.block (λ v. read_later (tabled bs fs) v below) climb rs 1 (is_header x.line) x.line [] [] h k.clear (omega arith) in
          rw q (rw (walk-lines (tabled bs fs) x.block (λ v. read_later (tabled bs fs) v below) climb rs 1 (is_header x.line) x.line [] []) k, (w.0, w.1))
      go false q = rw q (k, (tt, h))

-- ---- the rows of the first n lines

module _ (L : Leaves) where
  -- a turn at the first of some lines
  unfoldable turn_from : List Item → List Row → List Row
  turn_from [] rows = rows
  turn_from (x ∷ xs) rows = turn L x (lines_on xs) rows

  rows_next : (n : ℕ) (xs : List Item) (rows : List Row) → rows_to L (suc n) xs rows ≡ turn_from (drop n xs) (rows_to L n xs rows)
  unfolding rows_to turn_from
  rows_next zero [] rows = refl
  rows_next zero (x ∷ xs) rows = refl
  rows_next (suc n) [] rows = refl
  rows_next (suc n) (x ∷ xs) rows = rows_next n xs (turn L x (lines_on xs) rows)

  pub rows_all : (xs : List Item) (rows : List Row) → rows_to L (length xs) xs rows ≡ rows_of L xs rows
  unfolding rows_to rows_of
  rows_all [] rows = refl
  rows_all (x ∷ xs) rows = rows_all xs (turn L x (lines_on xs) rows)

  rows-given : (n : ℕ) (xs : List Item) (rows : List Row) → given (rows_to L n xs rows) ≡ given rows ++ take n (lines_on xs)
  unfolding rows_to lines_on
  rows-given zero xs rows = sym (append-nil (given rows))
  rows-given (suc n) [] rows = sym (append-nil (given rows))
  rows-given (suc n) (x ∷ xs) rows =
      rows-given n xs (turn L x (lines_on xs) rows)
      ∙ ap (λ (g : List (List ℕ)). g ++ take n (lines_on xs)) (turn-given L x (lines_on xs) rows)
      ∙ append_assoc (given rows) (x.line ∷ []) (take n (lines_on xs))

  rows-owned : (n : ℕ) (xs : List Item) (rows : List Row) → owned 1 rows → owned 1 (rows_to L n xs rows)
  unfolding rows_to
  rows-owned zero xs rows q = q
  rows-owned (suc n) [] rows q = q
  rows-owned (suc n) (x ∷ xs) rows q = rows-owned n xs (turn L x (lines_on xs) rows) (turn-owned L x (lines_on xs) rows q)

items-many : (ls : List (List ℕ)) (bs : List ℕ) → length (items_of ls bs) ≡ length ls
unfolding items_of
items-many [] bs = refl
items-many (l ∷ ls) [] = ap suc (items-many ls [])
items-many (l ∷ ls) (b ∷ bs) = ap suc (items-many ls bs)

item-at : (ls : List (List ℕ)) (bs : List ℕ) (n : ℕ) → n < length ls → n < length bs → drop n (items_of ls bs) ≡ record { line = get_or ls n []; block = get_or bs n 0 } ∷ drop (suc n) (items_of ls bs)
unfolding items_of
item-at [] bs n h k = absurd (omega arith)
item-at (l ∷ ls) [] n h k = absurd (omega arith)
item-at (l ∷ ls) (b ∷ bs) zero h k = refl
item-at (l ∷ ls) (b ∷ bs) (suc n) h k = item-at ls bs n (omega arith) (omega arith)

on-drop : (n : ℕ) (xs : List Item) → lines_on (drop n xs) ≡ drop n (lines_on xs)
unfolding lines_on
on-drop zero xs = refl
on-drop (suc n) [] = refl
on-drop (suc n) (x ∷ xs) = on-drop n xs

-- line n with its block
abbrev pub item_at : List ℕ → List ℕ → ℕ → Item
item_at t bs n = record { line = line_at t n; block = get_or bs n 0 }

module _ (t bs fs : List ℕ) (n : ℕ) (h : n < length (lines_of t)) (k : n < length bs) where
  here : drop n (items_in t bs) ≡ item_at t bs n ∷ drop (suc n) (items_in t bs)
  unfolding items_in
  here = item-at (lines_of t) bs n h k

  rest-on : lines_on (drop (suc n) (items_in t bs)) ≡ drop (suc n) (lines_of t)
  unfolding items_in
  rest-on = on-drop (suc n) (items_of (lines_of t) bs) ∙ ap (drop (suc n)) (items-on (tabled bs fs) (lines_of t) bs)

  pub rows-suc : rows_at t bs fs (suc n) ≡ turn (tabled bs fs) (item_at t bs n) (drop (suc n) (lines_of t)) (rows_at t bs fs n)
  unfolding rows_at turn_from
  rows-suc =
      rows_next (tabled bs fs) n (items_in t bs) []
      ∙ ap (λ (xs : List Item). turn_from (tabled bs fs) xs (rows_to (tabled bs fs) n (items_in t bs) [])) here
      ∙ ap (λ (ls : List (List ℕ)). turn (tabled bs fs) (item_at t bs n) ls (rows_to (tabled bs fs) n (items_in t bs) [])) rest-on

  pub walk_is : walk_at t bs fs n ≡ walk (tabled bs fs) (get_or bs n 0) (λ v. read_later (tabled bs fs) v (drop (suc n) (lines_of t))) climb (rows_at t bs fs n) 1 (is_header (line_at t n)) (line_at t n) [] []
  unfolding walk_at walk_from
  walk_is =
      ap (λ (xs : List Item). walk_from (tabled bs fs) xs (rows_at t bs fs n)) here
      ∙ ap (λ (ls : List (List ℕ)). walk (tabled bs fs) (get_or bs n 0) (λ v. read_later (tabled bs fs) v ls) climb (rows_at t bs fs n) 1 (is_header (line_at t n)) (line_at t n) [] []) rest-on

module _ (t bs fs : List ℕ) (n : ℕ) where
  pub given-at : given (rows_at t bs fs n) ≡ take n (lines_of t)
  unfolding rows_at items_in given
  given-at = rows-given (tabled bs fs) n (items_in t bs) [] ∙ ap (take n) (items-on (tabled bs fs) (lines_of t) bs)

  pub owned_at : owned 1 (rows_at t bs fs n)
  unfolding rows_at owned
  owned_at = rows-owned (tabled bs fs) n (items_in t bs) [] tt

  pub many-at : n ≤ length (lines_of t) → length (rows_at t bs fs n) ≡ n
  many-at h = sym (given-length (rows_at t bs fs n)) ∙ ap length given-at ∙ length-take-le n (lines_of t) h

-- the rows of all lines
pub rows_end : (t bs fs : List ℕ) → rows_at t bs fs (length (lines_of t)) ≡ rows_of (tabled bs fs) (items_of (lines_of t) bs) []
unfolding rows_at items_in
rows_end t bs fs =
    ap (λ (n : ℕ). rows_to (tabled bs fs) n (items_of (lines_of t) bs) []) (sym (items-many (lines_of t) bs))
    ∙ rows_all (tabled bs fs) (items_of (lines_of t) bs) []

-- ---- what the tables tell of line n

clear_at : (ls : List (List ℕ)) (n : ℕ) → n < length ls → no_lf ls ≡ true → lacks 10 (get_or ls n []) ≡ true
unfolding no_lf
clear_at [] n h k = absurd (omega arith)
clear_at (l ∷ ls) zero h k = and_left (lacks 10 l) (no_lf ls) k
clear_at (l ∷ ls) (suc n) h k = clear_at ls n (omega arith) (and_right (lacks 10 l) (no_lf ls) k)

module _ {t bs fs : List ℕ} (p : Placed t bs fs) where
  index_at : (n : ℕ) → n < length (lines_of t) → length (row_lines (rows_at t bs fs n)) ≡ n
  index_at n h = lines-many (rows_at t bs fs n) ∙ many-at t bs fs n (omega arith)

  pub start-at : (n : ℕ) → n < length (lines_of t) → eqb (get_or fs n 0) 1 ≡ (tabled bs fs).starts (row_lines (rows_at t bs fs n))
  start-at n h = ap (λ (k : ℕ). eqb (get_or fs k 0) 1) (sym (index_at n h))

  row_told : (n : ℕ) → n < length (lines_of t) → RowTold bs fs (item_at t bs n) (row_lines (rows_at t bs fs n))
  row_told n h =
      let q = index_at n h in
      record {
        clear = clear_at (lines_of t) n h (lines-no_lf t);
        block = ap (λ (k : ℕ). get_or bs k 0) q;
        b< = omega (arith, p.blocks-many);
        f< = omega (arith, p.starts-many);
      }

  pub told_at : (n : ℕ) → n ≤ length (lines_of t) → Told bs fs (rows_at t bs fs n)
  unfolding rows_at rows_to Told
  told_at zero h = tt
  told_at (suc n) h =
      subst (Told bs fs) (sym (rows-suc t bs fs n (omega arith) (omega (arith, p.blocks-many))))
      (turn-told bs fs (item_at t bs n) (drop (suc n) (lines_of t)) (rows_at t bs fs n) (told_at n (omega arith)) (row_told n (omega arith)))
