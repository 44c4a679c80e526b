-- What a walk decides at a row, by the table of owners and the lines in between. Assumes nothing.
use Prim.Native.Nat.{ℕ, suc, ◌-◌, ◌<◌}
use mathlib.Core.Path.{◌≡◌, refl, ap, ◌∙◌}
use mathlib.Core.Bool.{Bool, true, false, cond, not, ◌&&◌, ◌||◌}
use mathlib.Core.List.{List, [], ◌∷◌, ◌++◌}
use native.Mathlib.Omega.{arith}
use lib.Dec.{eqb}
use lib.ListN.{length}
use Rattle.lines.specs.Acts.{Act, keep, become, into, gone, act}
use Rattle.reading.specs.Reading.{plain}
use Rattle.place.specs.Region.{is_header}
use Rattle.reading.specs.Uses.{line_reads}
use Rattle.forms.specs.Breaks.{breaks}
use Rattle.calls.specs.Leaves.{Leaves, store, Context, unclear, target, newed, operand}
use Rattle.calls.specs.LeavesOf.{parsed_of, context_of, leaves_by, leaves_of}
use Rattle.calls.specs.Calls.{Item, Row, Step, end, skip, row_lines, stores_in, read_later, breaks_one, put_by, storeStep, stepAt}
use Rattle.calls.specs.Inner.Steps.{breaks_down, absorb_step}
use Rattle.calls.specs.Inner.Tables.{owner_of}
use Rattle.calls.proofs.Edges.{taken_lines, taken-lines, Passed, none_yet, over-row, took-row, owner_back, by-table}

-- ---- the table of owners

-- the owners of rows: how far below it the owner of each stands, or 0
unfoldable pub owners_in : List Row → List ℕ
owners_in [] = []
owners_in (r ∷ rs) = owner_of r.act ∷ owners_in rs

pub owners-length : (rs : List Row) → length (owners_in rs) ≡ length rs
unfolding owners_in
owners-length [] = refl
owners-length (r ∷ rs) = ap suc (owners-length rs)

-- the rows passed are as many as the walk has gone up
pub passed_length : {back : List Row} {d : ℕ} {took : List ℕ} {lines : List (List ℕ)} → Passed back d took lines → d ≡ suc (length back)
passed_length none_yet = refl
passed_length (over-row r n p q k) = ap suc (passed_length k)
passed_length (took-row x k) = ap suc (passed_length k)

-- ---- the lines that were absorbed are those whose owner is the line that the walk started from

module _ (L : Leaves) (value : List ℕ) where
  breaks-down : (back : List Row) → breaks_one L value (taken_lines back (length back)) ≡ breaks_down (L.breaks value) (row_lines back) (owners_in back)
  unfolding breaks_one taken_lines breaks_down row_lines owners_in
  breaks-down [] = refl
  breaks-down (r ∷ rs) = rw (owners-length rs, less_one (length rs)) (go (eqb (owner_of r.act) (suc (length rs))) (breaks-down rs))
    where
      less_one : (n : ℕ) → suc n - 1 ≡ n
      less_one n = omega arith

      go : (t : Bool) → breaks_one L value (taken_lines rs (length rs)) ≡ breaks_down (L.breaks value) (row_lines rs) (owners_in rs) →
          breaks_one L value (cond t (r.item.line ∷ []) [] ++ taken_lines rs (length rs)) ≡ (t && L.breaks value r.item.line) || breaks_down (L.breaks value) (row_lines rs) (owners_in rs)
      go true h = ap (λ (b : Bool). L.breaks value r.item.line || b) h
      go false h = h

  pub lines-down : {back : List Row} {d : ℕ} {took : List ℕ} {lines : List (List ℕ)} → Passed back d took lines → breaks_one L value lines ≡ breaks_down (L.breaks value) (row_lines back) (owners_in back)
  lines-down {back = back} {d = d} p =
      let n : d - 1 ≡ length back = omega (arith, passed_length p) in
      ap (breaks_one L value) (taken-lines p ∙ ap (taken_lines back) n) ∙ breaks-down back

-- ---- the step at a row that stands

-- its text now is what its act makes of it
pub row-stands : (L : Leaves) (b : ℕ) (later : ℕ → Bool) (a : Act) (x : Item) (t : List ℕ) (d : ℕ) (over : Bool) (cur took : List ℕ) (lines above : List (List ℕ)) →
    act a x.line ≡ t ∷ [] → stepAt L b later a x d over cur took lines above ≡ storeStep L b later (L.parse t) over cur lines x.block above
unfolding stepAt act
row-stands L b later keep x t d over cur took lines above q = let e : x.line ≡ t = cc in rw e
row-stands L b later (become y) x t d over cur took lines above q = let e : y ≡ t = cc in rw e
row-stands L b later (into n) x t d over cur took lines above q = let z : ◌≡◌ {A = ℕ} 0 1 = cc in absurd (omega arith)
row-stands L b later gone x t d over cur took lines above q = let z : ◌≡◌ {A = ℕ} 0 1 = cc in absurd (omega arith)

-- a read below and the value that is put in do not hang on starts and blocks
pub later_same : (starts : List (List ℕ) → Bool) (blocks : List (List ℕ) → List ℕ) (v : ℕ) (ls : List (List ℕ)) →
    read_later (leaves_by starts blocks) v ls ≡ read_later (leaves_of plain) v ls
unfolding read_later
later_same starts blocks v [] = refl
later_same starts blocks v (l ∷ ls) =
    ap (λ (more : Bool). cond (is_header l) false (not (eqb (line_reads v l) 0) || (not (stores_in v (parsed_of l)) && more))) (later_same starts blocks v ls)

pub put_same : (starts : List (List ℕ) → Bool) (blocks : List (List ℕ) → List ℕ) (c : Context) (cur : List ℕ) (v : ℕ) (value : List ℕ) →
    put_by (leaves_by starts blocks) c cur v value ≡ put_by (leaves_of plain) c cur v value
unfolding put_by
put_same starts blocks unclear cur v value = refl
put_same starts blocks target cur v value = refl
put_same starts blocks newed cur v value = refl
put_same starts blocks operand cur v value = refl

-- where it is a store, region, block and start of statement are asked first, and then what the code of one step asks
pub store-absorb : (starts : List (List ℕ) → Bool) (blocks : List (List ℕ) → List ℕ) (b : ℕ) (below : List (List ℕ)) {back : List Row} {d : ℕ} {took : List ℕ} {lines : List (List ℕ)} → Passed back d took lines →
    (t : List ℕ) (v : ℕ) (value : List ℕ) → parsed_of t ≡ store v value → (over : Bool) (cur : List ℕ) (blk : ℕ) (above : List (List ℕ)) →
    storeStep (leaves_by starts blocks) b (λ (v : ℕ). read_later (leaves_by starts blocks) v below) (parsed_of t) over cur lines blk above
    ≡ cond (not over && (eqb blk b && starts above)) (absorb_step plain cur v value below (row_lines back) (owners_in back)) end
unfolding storeStep absorb_step
store-absorb starts blocks b below {back = back} {lines = lines} p t v value e over cur blk above =
    rw (e, lines-down (leaves_by starts blocks) value p, later_same starts blocks v below, put_same starts blocks (context_of cur v) cur v value)
    (go (not over) (eqb blk b) (starts above) (eqb (line_reads v cur) 1 && (not (read_later (leaves_of plain) v below) && not (breaks_down (breaks value) (row_lines back) (owners_in back)))) (put_by (leaves_of plain) (context_of cur v) cur v value))
  where
    go : (f g h k : Bool) (s : Step) → cond (f && (g && (h && k))) s end ≡ cond (f && (g && h)) (cond k s end) end
    go false g h k s = refl
    go true false h k s = refl
    go true true false k s = refl
    go true true true k s = refl

-- ---- the step at a row that was dropped

-- its owner was absorbed in this walk where the owner's own owner is the line that the walk started from
pub row-dropped : (L : Leaves) (b : ℕ) (later : ℕ → Bool) (i : ℕ) (x : Item) {back : List Row} {d : ℕ} {took : List ℕ} {lines : List (List ℕ)} → Passed back d took lines →
    suc i < d → (over : Bool) (cur : List ℕ) (above : List (List ℕ)) →
    stepAt L b later (into (suc i)) x d over cur took lines above ≡ cond (eqb (owner_back back i) (d - suc i)) skip end
unfolding stepAt
row-dropped L b later i x {d = d} p h over cur above = ap (λ (t : Bool). cond t skip end) (by-table p i h)
