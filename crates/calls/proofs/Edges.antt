-- What code needs that keeps the standing lines as a stack and one number for each line: its owner's distance, or 0. Assumes nothing.
use Prim.Native.Nat.{ℕ, zero, suc, ◌-◌, ◌≤◌, ◌<◌}
use mathlib.Core.Path.{subst, ◌≡◌, refl, sym, ap, ◌∙◌}
use mathlib.Core.Bool.{Bool, true, false, cond, ◌||◌}
use mathlib.Core.List.{List, [], ◌∷◌, ◌++◌, append_assoc, append-nil}
use native.Mathlib.Omega.{arith}
use borrow.Author.Tests.{eq-eqb, ne_eqb}
use lib.ListN.{length, length-append}
use lib.Dec.{eqb}
use Rattle.lines.specs.Acts.{Act, into, act, apply}
use Rattle.lines.proofs.ActLaws.{apply-append}
use Rattle.lines.proofs.Tests.{no}
use Rattle.calls.specs.Leaves.{Leaves}
use Rattle.calls.specs.Calls.{Item, Row, Walked, Step, end, skip, absorb, stop, pass, tries, row_lines, lines_on, has, climb, made, on_step, items_of, acts_up, read_later, stepAt, walk, turn, rows_of, rebuild_calls_acts, rebuild_calls}
use Rattle.calls.specs.Inner.Tables.{owner_of}
use Rattle.calls.proofs.Cut.{walk_step, acts-more, acts-length}

-- ---- the stack: what the rows above make, the oldest first. A dropped row adds nothing.

unfoldable pub standing : List Row → List (List ℕ)
standing [] = []
standing (r ∷ rs) = standing rs ++ act r.act r.item.line

-- the lines of rows as they were given, the oldest first
unfoldable pub given : List Row → List (List ℕ)
given [] = []
given (r ∷ rs) = given rs ++ (r.item.line ∷ [])

pub given-length : (rs : List Row) → length (given rs) ≡ length rs
unfolding given
given-length [] = refl
given-length (r ∷ rs) = length-append (given rs) (r.item.line ∷ []) ∙ omega (arith, given-length rs)

acts-given : (rs : List Row) → length (acts_up rs []) ≡ length (given rs)
acts-given rs = acts-length rs [] ∙ omega (arith, given-length rs)

pub apply-standing : (rs : List Row) → apply (acts_up rs []) (given rs) ≡ standing rs
unfolding acts_up given standing apply
apply-standing [] = refl
apply-standing (r ∷ rs) =
    ap (λ (k : List Act). apply k (given rs ++ (r.item.line ∷ []))) (acts-more rs (r.act ∷ []))
    ∙ apply-append (acts_up rs []) (given rs) (r.act ∷ []) (r.item.line ∷ []) (acts-given rs)
    ∙ ap (λ (k : List (List ℕ)). k ++ (act r.act r.item.line ++ [])) (apply-standing rs)
    ∙ ap (λ (k : List (List ℕ)). standing rs ++ k) (append-nil (act r.act r.item.line))

-- the rows are those of the lines given
module _ (L : Leaves) where
  pub walk-given : (b : ℕ) (later : ℕ → Bool) (left : ℕ) (rs : List Row) (d : ℕ) (over : Bool) (cur took : List ℕ) (lines : List (List ℕ))
      → given (walk L b later left rs d over cur took lines).rows ≡ given rs
  unfolding walk given
  walk-given b later zero rs d over cur took lines = refl
  walk-given b later (suc left) [] d over cur took lines = refl
  walk-given b later (suc left) (r ∷ rs) d over cur took lines =
      go (stepAt L b later r.act r.item d over cur took lines (row_lines rs)) refl
      (walk-given b later left rs (suc d) (over || L.header r.item.line) cur took lines)
      (λ next. walk-given b later left rs (suc d) (over || L.header r.item.line) next (d ∷ took) (r.item.line ∷ lines))
    where
      go : (s : Step)
          → stepAt L b later r.act r.item d over cur took lines (row_lines rs) ≡ s
          → given (walk L b later left rs (suc d) (over || L.header r.item.line) cur took lines).rows ≡ given rs
          → ((next : List ℕ) → given (walk L b later left rs (suc d) (over || L.header r.item.line) next (d ∷ took) (r.item.line ∷ lines)).rows ≡ given rs)
          → given (walk L b later (suc left) (r ∷ rs) d over cur took lines).rows ≡ given rs ++ (r.item.line ∷ [])
      go end q c k = ap (λ (w : Walked). given w.rows) (walk_step L b later left r rs d over cur took lines) ∙ rw q
      go skip q c k = ap (λ (w : Walked). given w.rows) (walk_step L b later left r rs d over cur took lines) ∙ rw q (ap (λ (g : List (List ℕ)). g ++ (r.item.line ∷ [])) c)
      go (absorb next) q c k = ap (λ (w : Walked). given w.rows) (walk_step L b later left r rs d over cur took lines) ∙ rw q (ap (λ (g : List (List ℕ)). g ++ (r.item.line ∷ [])) (k next))

  pub turn-given : (x : Item) (below : List (List ℕ)) (rs : List Row) → given (turn L x below rs) ≡ given rs ++ (x.line ∷ [])
  unfolding turn given
  turn-given x below rs = go (tries L x.line rs) refl
    where
      go : (t : Bool) → tries L x.line rs ≡ t → given (turn L x below rs) ≡ given rs ++ (x.line ∷ [])
      go true q = rw q (ap (λ (g : List (List ℕ)). g ++ (x.line ∷ [])) (walk-given x.block (λ v. read_later L v below) climb rs 1 (L.header x.line) x.line [] []))
      go false q = rw q

  pub rows-given : (xs : List Item) (rs : List Row) → given (rows_of L xs rs) ≡ given rs ++ lines_on xs
  unfolding rows_of lines_on
  rows-given [] rs = sym (append-nil (given rs))
  rows-given (x ∷ xs) rs =
      rows-given xs (turn L x (lines_on xs) rs)
      ∙ ap (λ (g : List (List ℕ)). g ++ lines_on xs) (turn-given x (lines_on xs) rs)
      ∙ append_assoc (given rs) (x.line ∷ []) (lines_on xs)

  pub items-on : (ls : List (List ℕ)) (bs : List ℕ) → lines_on (items_of ls bs) ≡ ls
  unfolding lines_on items_of
  items-on [] bs = refl
  items-on (l ∷ ls) [] = ap (λ (k : List (List ℕ)). l ∷ k) (items-on ls [])
  items-on (l ∷ ls) (b ∷ bs) = ap (λ (k : List (List ℕ)). l ∷ k) (items-on ls bs)

  -- what the pass gives is what stands at the end: the code's output buffer
  pub rebuilt : (ls : List (List ℕ)) → rebuild_calls L ls ≡ standing (rows_of L (items_of ls (L.blocks ls)) [])
  unfolding rebuild_calls rebuild_calls_acts given
  rebuilt ls =
      ap (apply (acts_up (rows_of L (items_of ls (L.blocks ls)) []) [])) (sym (rows-given (items_of ls (L.blocks ls)) [] ∙ items-on ls (L.blocks ls)))
      ∙ apply-standing (rows_of L (items_of ls (L.blocks ls)) [])

-- ---- what was taken, read off the rows passed (the nearest to the walk's end first): a row is taken if its owner is the line the walk started from

-- the row e lines above the start stands at the head of `done`
unfoldable pub taken_lines : List Row → ℕ → List (List ℕ)
taken_lines [] e = []
taken_lines (r ∷ rs) e = cond (eqb (owner_of r.act) e) (r.item.line ∷ []) [] ++ taken_lines rs (e - 1)

unfoldable pub taken_at : List Row → ℕ → List ℕ
taken_at [] e = []
taken_at (r ∷ rs) e = cond (eqb (owner_of r.act) e) (e ∷ []) [] ++ taken_at rs (e - 1)

-- the rows passed by a walk that is d lines up
pub data Passed : List Row → ℕ → List ℕ → List (List ℕ) → Type 0 where
  none_yet : Passed [] 1 [] []
  over-row : {done : List Row} {d : ℕ} {took : List ℕ} {lines : List (List ℕ)} (r : Row) (n : ℕ) → r.act ≡ into n → has (d - n) took ≡ true → Passed done d took lines → Passed (r ∷ done) (suc d) took lines
  took-row : {done : List Row} {d : ℕ} {took : List ℕ} {lines : List (List ℕ)} (x : Item) → Passed done d took lines → Passed (record { item = x; act = into d } ∷ done) (suc d) (d ∷ took) (x.line ∷ lines)

took-low : {done : List Row} {d : ℕ} {took : List ℕ} {lines : List (List ℕ)} → Passed done d took lines → (1 ≤ d) × ((e : ℕ) → d ≤ e → has e took ≡ false) × (has 0 took ≡ false)
unfolding has
took-low none_yet = (omega arith, (λ e q. refl), refl)
took-low (over-row {d = d} r n p q k) = let w = took-low k in (omega arith, (λ e l. w.1 e (omega arith)), w.2)
took-low (took-row {d = d} x k) =
    let w = took-low k in
    (omega arith, (λ e l. rw (ne_eqb e d (λ m. omega arith), w.1 e (omega arith))), rw (ne_eqb 0 d (λ m. omega (arith, w.0)), w.2))

-- a row that is stepped over is not owned by the line that the walk started from
not_own : {done : List Row} {d : ℕ} {took : List ℕ} {lines : List (List ℕ)} (r : Row) (n : ℕ) → r.act ≡ into n → has (d - n) took ≡ true → Passed done d took lines → eqb (owner_of r.act) d ≡ false
unfolding owner_of
not_own {d = d} {took = took} r n p q k =
    rw p
    (ne_eqb n d (λ m. no (sym (took-low k).2 ∙ ap (λ (j : ℕ). has j took) (omega (arith, m)) ∙ q)))

into-owner : (e : ℕ) → owner_of (into e) ≡ e
unfolding owner_of
into-owner e = refl

less_two : (d i : ℕ) → suc d - suc (suc i) ≡ d - suc i
less_two d i = omega arith

less_one : (d : ℕ) → suc d - 1 ≡ d
less_one d = omega arith

-- both lists of the definition are read off the rows
pub taken-lines : {done : List Row} {d : ℕ} {took : List ℕ} {lines : List (List ℕ)} → Passed done d took lines → lines ≡ taken_lines done (d - 1)
unfolding taken_lines
taken-lines none_yet = refl
taken-lines (over-row {done = done} {d = d} {took = took} r n p q k) = rw (less_one d, not_own r n p q k) (taken-lines k)
taken-lines (took-row {done = done} {d = d} x k) = rw (less_one d, own d) (ap (λ (m : List (List ℕ)). x.line ∷ m) (taken-lines k))
  where
    own : (e : ℕ) → eqb (owner_of (into e)) e ≡ true
    own e = rw (into-owner e) (eq-eqb e e refl)

pub taken-at : {done : List Row} {d : ℕ} {took : List ℕ} {lines : List (List ℕ)} → Passed done d took lines → took ≡ taken_at done (d - 1)
unfolding taken_at
taken-at none_yet = refl
taken-at (over-row {done = done} {d = d} {took = took} r n p q k) = rw (less_one d, not_own r n p q k) (taken-at k)
taken-at (took-row {done = done} {d = d} x k) = rw (less_one d, own d) (ap (λ (m : List ℕ). d ∷ m) (taken-at k))
  where
    own : (e : ℕ) → eqb (owner_of (into e)) e ≡ true
    own e = rw (into-owner e) (eq-eqb e e refl)

-- ---- the loop that walks up. `back` are the rows passed, the farthest first; `rest` is where it stands.

unfoldable pub onto : List Row → List Row → List Row
onto [] rows = rows
onto (r ∷ back) rows = onto back (r ∷ rows)

abbrev pub passed : List Row → Walked → Walked
passed back w = record { act = w.act; rows = onto back w.rows }

pub record WalkInv (L : Leaves) (b : ℕ) (later : ℕ → Bool) (whole : Walked) (left : ℕ) (rest back : List Row) (d : ℕ) (over : Bool) (cur took : List ℕ) (lines : List (List ℕ)) : Type 0 where
  pub so_far : whole ≡ passed back (walk L b later left rest d over cur took lines)
  pub past : Passed back d took lines

-- one law for each edge
pub edge-start : (L : Leaves) (b : ℕ) (later : ℕ → Bool) (rows : List Row) (over : Bool) (l : List ℕ)
    → WalkInv L b later (walk L b later climb rows 1 over l [] []) climb rows [] 1 over l [] []
unfolding onto
edge-start L b later rows over l = record { so_far = refl; past = none_yet }

into-skips : (L : Leaves) (b : ℕ) (later : ℕ → Bool) (n : ℕ) (x : Item) (d : ℕ) (over : Bool) (cur took : List ℕ) (lines above : List (List ℕ))
    → has (d - n) took ≡ true → stepAt L b later (into n) x d over cur took lines above ≡ skip
unfolding stepAt
into-skips L b later n x d over cur took lines above q = rw q

module _ {L : Leaves} {b : ℕ} {later : ℕ → Bool} {whole : Walked} {left : ℕ} {r : Row} {rs back : List Row} {d : ℕ} {over : Bool} {cur took : List ℕ} {lines : List (List ℕ)}
    (h : WalkInv L b later whole (suc left) (r ∷ rs) back d over cur took lines) where
  pub edge-skip : (n : ℕ) → r.act ≡ into n → has (d - n) took ≡ true
      → WalkInv L b later whole left rs (r ∷ back) (suc d) (over || L.header r.item.line) cur took lines
  unfolding on_step onto
  edge-skip n p q =
      record {
        so_far = h.so_far ∙ ap (passed back) (walk_step L b later left r rs d over cur took lines) ∙ ap (λ (s : Step). passed back (on_step s (stop took cur (r ∷ rs)) (pass r.item r.act (walk L b later left rs (suc d) (over || L.header r.item.line) cur took lines)) (λ next. pass r.item (into d) (walk L b later left rs (suc d) (over || L.header r.item.line) next (d ∷ took) (r.item.line ∷ lines))))) (skips p q);
        past = over-row r n p q h.past;
      }
    where
      skips : r.act ≡ into n → has (d - n) took ≡ true → stepAt L b later r.act r.item d over cur took lines (row_lines rs) ≡ skip
      skips p q = ap (λ (a : Act). stepAt L b later a r.item d over cur took lines (row_lines rs)) p ∙ into-skips L b later n r.item d over cur took lines (row_lines rs) q

  pub edge-absorb : (next : List ℕ) → stepAt L b later r.act r.item d over cur took lines (row_lines rs) ≡ absorb next
      → WalkInv L b later whole left rs (record { item = r.item; act = into d } ∷ back) (suc d) (over || L.header r.item.line) next (d ∷ took) (r.item.line ∷ lines)
  unfolding on_step onto
  edge-absorb next q =
      record {
        so_far = h.so_far ∙ ap (passed back) (walk_step L b later left r rs d over cur took lines) ∙ ap (λ (s : Step). passed back (on_step s (stop took cur (r ∷ rs)) (pass r.item r.act (walk L b later left rs (suc d) (over || L.header r.item.line) cur took lines)) (λ next. pass r.item (into d) (walk L b later left rs (suc d) (over || L.header r.item.line) next (d ∷ took) (r.item.line ∷ lines))))) q;
        past = took-row r.item h.past;
      }

  pub edge-end : stepAt L b later r.act r.item d over cur took lines (row_lines rs) ≡ end
      → whole ≡ record { act = made took cur; rows = onto back (r ∷ rs) }
  unfolding on_step
  edge-end q = h.so_far ∙ ap (passed back) (walk_step L b later left r rs d over cur took lines) ∙ rw q

module _ {L : Leaves} {b : ℕ} {later : ℕ → Bool} {whole : Walked} {left : ℕ} {back : List Row} {d : ℕ} {over : Bool} {cur took : List ℕ} {lines : List (List ℕ)} where
  pub edge-top : WalkInv L b later whole (suc left) [] back d over cur took lines → whole ≡ record { act = made took cur; rows = onto back [] }
  unfolding walk
  edge-top h = h.so_far

module _ {L : Leaves} {b : ℕ} {later : ℕ → Bool} {whole : Walked} {rest back : List Row} {d : ℕ} {over : Bool} {cur took : List ℕ} {lines : List (List ℕ)} where
  pub edge-spent : WalkInv L b later whole zero rest back d over cur took lines → whole ≡ record { act = made took cur; rows = onto back rest }
  unfolding walk
  edge-spent h = h.so_far

-- the rows passed are dropped: what stands is what stood above them, so the output buffer is cut back to `rest`
pub stands : {back : List Row} {d : ℕ} {took : List ℕ} {lines : List (List ℕ)} → Passed back d took lines → (rest : List Row) → standing (onto back rest) ≡ standing rest
unfolding onto standing act
stands none_yet rest = refl
stands (over-row {done = done} r n p q k) rest = stands k (r ∷ rest) ∙ rw p (append-nil (standing rest))
stands (took-row {done = done} {d = d} x k) rest = stands k (record { item = x; act = into d } ∷ rest) ∙ append-nil (standing rest)

-- the test of a dropped row by the table: its owner stands n - 1 rows back, and was taken in this walk if its own owner is the start
unfoldable pub owner_back : List Row → ℕ → ℕ
owner_back [] i = 0
owner_back (r ∷ rs) zero = owner_of r.act
owner_back (r ∷ rs) (suc i) = owner_back rs i

took-on : (d i x : ℕ) (took : List ℕ) (e : ℕ) → e ≡ d - suc i → eqb (d - suc i) d ≡ false → has (d - suc i) took ≡ eqb x (d - suc i) → has e (d ∷ took) ≡ eqb x e
unfolding has
took-on d i x took e p q r = subst (λ (m : ℕ). has m (d ∷ took) ≡ eqb x m) (sym p) (rw q r)

pub by-table : {back : List Row} {d : ℕ} {took : List ℕ} {lines : List (List ℕ)} → Passed back d took lines → (i : ℕ) → suc i < d → has (d - suc i) took ≡ eqb (owner_back back i) (d - suc i)
unfolding owner_back has
by-table none_yet i l = absurd (omega arith)
by-table (over-row {done = done} {d = d} {took = took} r n p q k) zero l = rw (less_one d, not_own r n p q k) ((took-low k).1 d (omega arith))
by-table (over-row {done = done} {d = d} {took = took} r n p q k) (suc i) l = rw (less_two d i) (by-table k i (omega arith))
by-table (took-row {done = done} {d = d} {took = took} x k) zero l = rw (less_one d, eq-eqb d d refl, into-owner d, eq-eqb d d refl)
by-table (took-row {done = done} {d = d} {took = took} x k) (suc i) l = took-on d i (owner_back done i) took (suc d - suc (suc i)) (less_two d i) (ne_eqb (d - suc i) d (λ m. omega (arith, m, (took-low k).0))) (by-table k i (omega arith))
