-- rebuild_calls takes a line only into a call line below it, and from there on, line by line, one comes to a line that stands: none is lost. The table of
-- owners is the table of moves. Assumes nothing.
use Prim.Native.Nat.{ℕ, zero, suc, ◌<◌}
use mathlib.Core.Path.{◌≡◌, refl, sym, ap, ◌∙◌}
use mathlib.Core.Bool.{Bool, true, false, ◌&&◌, ◌||◌}
use mathlib.Core.List.{List, [], ◌∷◌}
use native.Mathlib.Omega.{arith}
use borrow.Author.Tests.{lt-ltb}
use lib.ListN.{length, drop}
use Rattle.lines.specs.Lf.{all}
use Rattle.lines.specs.Acts.{Act, keep, become, into, gone}
use Rattle.lines.proofs.Tests.{no, and_left, and_right, and_both}
use Rattle.origins.specs.Fates.{Fate, at, held, lost, taken, fate_at, fates_go, fates_of}
use Rattle.origins.specs.Inner.Codes.{move_of, moves_of}
use Rattle.origins.proofs.FateLaws.{fates-length}
use Rattle.origins.proofs.CodeLaws as codes
use Rattle.calls.specs.Leaves.{Leaves}
use Rattle.calls.specs.Calls.{Item, Row, Step, end, skip, absorb, row_lines, lines_on, climb, made, tries, items_of, acts_up, read_later, stepAt, walk, turn, rows_of, rebuild_calls_acts}
use Rattle.calls.specs.Inner.Tables.{owner_of, owners_of}
use Rattle.calls.proofs.Cut.{walk_step}
use Rattle.calls.proofs.Edges.{items-on}
use Rattle.calls.proofs.Told.{turn_lines}

-- line n of some lines, the first being line 0, is there and is a call line
unfoldable pub call_at : (List ℕ → Bool) → ℕ → List (List ℕ) → Bool
call_at call n [] = false
call_at call zero (l ∷ ls) = call l
call_at call (suc n) (l ∷ ls) = call_at call n ls

-- what becomes of a line above the lines `below`: it stays, becomes another, or is taken into a call line of these
unfoldable pub lands : (List ℕ → Bool) → Act → List (List ℕ) → Bool
unfolding call_at
lands call keep below = true
lands call (become t) below = true
lands call (into zero) below = false
lands call (into (suc n)) below = call_at call n below
lands call gone below = false

-- so of each line, one act for each
unfoldable pub sound : (List ℕ → Bool) → List Act → List (List ℕ) → Bool
unfolding lands
sound call [] [] = true
sound call [] (l ∷ ls) = false
sound call (a ∷ more) [] = false
sound call (a ∷ more) (l ∷ ls) = lands call a ls && sound call more ls

-- the first of some lines, by their acts, stands, or is taken into one of which the same is so
pub data Stays : List Act → Type 0 where
  kept : {more : List Act} → Stays (keep ∷ more)
  changed : {t : List ℕ} {more : List Act} → Stays (become t ∷ more)
  moved : {n : ℕ} {more : List Act} → Stays (drop n more) → Stays (into (suc n) ∷ more)

-- ---- then each line comes to one that stands

call-inside : (call : List ℕ → Bool) (n : ℕ) (ls : List (List ℕ)) → call_at call n ls ≡ true → n < length ls
unfolding call_at
call-inside call n [] h = no h
call-inside call zero (l ∷ ls) h = omega arith
call-inside call (suc n) (l ∷ ls) h = let k = call-inside call n ls h in omega (arith, k)

sound-length : (call : List ℕ → Bool) (acts : List Act) (ls : List (List ℕ)) → sound call acts ls ≡ true → length acts ≡ length ls
unfolding sound
sound-length call [] [] h = refl
sound-length call [] (l ∷ ls) h = no h
sound-length call (a ∷ more) [] h = no h
sound-length call (a ∷ more) (l ∷ ls) h = ap suc (sound-length call more ls (and_right (lands call a ls) (sound call more ls) h))

first-stays : (call : List ℕ → Bool) (a : Act) (more : List Act) (ls : List (List ℕ)) → lands call a ls ≡ true → length more ≡ length ls
    → ((n : ℕ) → n < length more → Stays (drop n more)) → Stays (a ∷ more)
unfolding lands
first-stays call keep more ls h q k = kept
first-stays call (become t) more ls h q k = changed
first-stays call (into zero) more ls h q k = no h
first-stays call (into (suc n)) more ls h q k = let i = call-inside call n ls h in moved (k n (omega (arith, i, q)))
first-stays call gone more ls h q k = no h

sound-stays : (call : List ℕ → Bool) (acts : List Act) (ls : List (List ℕ)) → sound call acts ls ≡ true → (n : ℕ) → n < length acts → Stays (drop n acts)
unfolding sound
sound-stays call [] ls h n k = absurd (omega arith)
sound-stays call (a ∷ more) [] h n k = no h
sound-stays call (a ∷ more) (l ∷ ls) h zero k =
    let r = and_right (lands call a ls) (sound call more ls) h in
    first-stays call a more ls (and_left (lands call a ls) (sound call more ls) h) (sound-length call more ls r) (sound-stays call more ls r)
sound-stays call (a ∷ more) (l ∷ ls) h (suc n) k = sound-stays call more ls (and_right (lands call a ls) (sound call more ls) h) n (omega arith)

-- ---- by their fates: none is lost

unfoldable pub found : Fate → Bool
found (at n) = true
found (held n) = true
found lost = false

taken-found : (f : Fate) → found f ≡ true → found (taken f) ≡ true
unfolding found taken
taken-found (at n) h = refl
taken-found (held n) h = refl
taken-found lost h = h

at-found : (fs : List Fate) (n : ℕ) → all found fs ≡ true → n < length fs → found (fate_at fs n) ≡ true
unfolding fate_at
at-found [] n h k = absurd (omega arith)
at-found (f ∷ fs) zero h k = and_left (found f) (all found fs) h
at-found (f ∷ fs) (suc n) h k = at-found fs n (and_right (found f) (all found fs) h) (omega arith)

sound-found : (call : List ℕ → Bool) (acts : List Act) (ls : List (List ℕ)) (o : ℕ) → sound call acts ls ≡ true → all found (fates_go acts o) ≡ true
unfolding sound lands fates_go fate_at found
sound-found call [] ls o h = refl
sound-found call (a ∷ more) [] o h = no h
sound-found call (keep ∷ more) (l ∷ ls) o h = sound-found call more ls (suc o) h
sound-found call (become t ∷ more) (l ∷ ls) o h = sound-found call more ls (suc o) h
sound-found call (into zero ∷ more) (l ∷ ls) o h = no h
sound-found call (into (suc n) ∷ more) (l ∷ ls) o h =
    let s = and_right (call_at call n ls) (sound call more ls) h in
    let r = sound-found call more ls o s in
    let i = call-inside call n ls (and_left (call_at call n ls) (sound call more ls) h) in
    let k : n < length (fates_go more o) = omega (arith, i, sound-length call more ls s, fates-length more o) in
    and_both (taken-found (fate_at (fates_go more o) n) (at-found (fates_go more o) n r k)) r
sound-found call (gone ∷ more) (l ∷ ls) o h = no h

-- ---- how far each line goes is how far below it its owner stands

sound-moves : (call : List ℕ → Bool) (acts : List Act) (ls : List (List ℕ)) → sound call acts ls ≡ true → moves_of acts ≡ owners_of acts
unfolding sound lands moves_of move_of owners_of owner_of
sound-moves call [] ls h = refl
sound-moves call (a ∷ more) [] h = no h
sound-moves call (keep ∷ more) (l ∷ ls) h = ap (λ (r : List ℕ). 0 ∷ r) (sound-moves call more ls h)
sound-moves call (become t ∷ more) (l ∷ ls) h = ap (λ (r : List ℕ). 0 ∷ r) (sound-moves call more ls h)
sound-moves call (into zero ∷ more) (l ∷ ls) h = no h
sound-moves call (into (suc n) ∷ more) (l ∷ ls) h = ap (λ (r : List ℕ). suc n ∷ r) (sound-moves call more ls (and_right (call_at call n ls) (sound call more ls) h))
sound-moves call (gone ∷ more) (l ∷ ls) h = no h

-- and none goes into itself
sound-down : (call : List ℕ → Bool) (acts : List Act) (ls : List (List ℕ)) → sound call acts ls ≡ true → all codes.sound acts ≡ true
unfolding sound lands
sound-down call [] ls h = refl
sound-down call (a ∷ more) [] h = no h
sound-down call (keep ∷ more) (l ∷ ls) h = sound-down call more ls h
sound-down call (become t ∷ more) (l ∷ ls) h = sound-down call more ls h
sound-down call (into zero ∷ more) (l ∷ ls) h = no h
sound-down call (into (suc n) ∷ more) (l ∷ ls) h = and_both (lt-ltb 0 (suc n) (omega arith)) (sound-down call more ls (and_right (call_at call n ls) (sound call more ls) h))
sound-down call (gone ∷ more) (l ∷ ls) h = no h

-- lines, the nearest first, on top of others
unfoldable upon : List (List ℕ) → List (List ℕ) → List (List ℕ)
upon [] below = below
upon (l ∷ ls) below = upon ls (l ∷ below)

made-lands : (call : List ℕ → Bool) (took cur : List ℕ) (below : List (List ℕ)) → lands call (made took cur) below ≡ true
unfolding made lands
made-lands call [] cur below = refl
made-lands call (d ∷ took) cur below = refl

-- ---- the pass
module _ (L : Leaves) where
  -- so of rows, the nearest first, above the lines `below`
  unfoldable landed : List (List ℕ) → List Row → Bool
  unfolding lands
  landed below [] = true
  landed below (r ∷ rs) = lands L.call r.act below && landed (r.item.line ∷ below) rs

  -- a walk from a call line that is d + 1 lines below the rows
  walk-landed : (b : ℕ) (later : ℕ → Bool) (left : ℕ) (rs : List Row) (d : ℕ) (over : Bool) (cur took : List ℕ) (lines below under : List (List ℕ))
      → call_at L.call d below ≡ true → landed below rs ≡ true
      → (lands L.call (walk L b later left rs (suc d) over cur took lines).act under ≡ true)
      × (landed below (walk L b later left rs (suc d) over cur took lines).rows ≡ true)
  unfolding walk landed lands call_at
  walk-landed b later zero rs d over cur took lines below under c h = (made-lands L.call took cur under, h)
  walk-landed b later (suc left) [] d over cur took lines below under c h = (made-lands L.call took cur under, h)
  walk-landed b later (suc left) (r ∷ rs) d over cur took lines below under c h =
      let down = and_right (lands L.call r.act below) (landed (r.item.line ∷ below) rs) h in
      go (stepAt L b later r.act r.item (suc d) over cur took lines (row_lines rs)) refl
      (walk-landed b later left rs (suc d) (over || L.header r.item.line) cur took lines (r.item.line ∷ below) under c down)
      (λ next. walk-landed b later left rs (suc d) (over || L.header r.item.line) next (suc d ∷ took) (r.item.line ∷ lines) (r.item.line ∷ below) under c down)
    where
      go : (s : Step)
          → stepAt L b later r.act r.item (suc d) over cur took lines (row_lines rs) ≡ s
          → (lands L.call (walk L b later left rs (suc (suc d)) (over || L.header r.item.line) cur took lines).act under ≡ true)
          × (landed (r.item.line ∷ below) (walk L b later left rs (suc (suc d)) (over || L.header r.item.line) cur took lines).rows ≡ true)
          → ((next : List ℕ) → (lands L.call (walk L b later left rs (suc (suc d)) (over || L.header r.item.line) next (suc d ∷ took) (r.item.line ∷ lines)).act under ≡ true)
          × (landed (r.item.line ∷ below) (walk L b later left rs (suc (suc d)) (over || L.header r.item.line) next (suc d ∷ took) (r.item.line ∷ lines)).rows ≡ true))
          → (lands L.call (walk L b later (suc left) (r ∷ rs) (suc d) over cur took lines).act under ≡ true)
          × (landed below (walk L b later (suc left) (r ∷ rs) (suc d) over cur took lines).rows ≡ true)
      go end q s k = rw (walk_step L b later left r rs (suc d) over cur took lines, q) (made-lands L.call took cur under, h)
      go skip q s k = rw (walk_step L b later left r rs (suc d) over cur took lines, q) (s.0, and_both (and_left (lands L.call r.act below) (landed (r.item.line ∷ below) rs) h) s.1)
      go (absorb next) q s k = rw (walk_step L b later left r rs (suc d) over cur took lines, q) ((k next).0, and_both c (k next).1)

  turn-landed : (x : Item) (below : List (List ℕ)) (rs : List Row) → landed (x.line ∷ below) rs ≡ true → landed below (turn L x below rs) ≡ true
  unfolding turn landed lands call_at
  turn-landed x below rs h = go (tries L x.line rs) refl
    where
      go : (t : Bool) → tries L x.line rs ≡ t → landed below (turn L x below rs) ≡ true
      go true q =
          let w = walk-landed x.block (λ v. read_later L v below) climb rs 0 (L.header x.line) x.line [] [] (x.line ∷ below) below (and_left (L.call x.line) _ q) h in
          rw q (and_both w.0 w.1)
      go false q = rw q (and_both refl h)

  rows-landed : (xs : List Item) (rs : List Row) → landed (lines_on xs) rs ≡ true → landed [] (rows_of L xs rs) ≡ true
  unfolding rows_of lines_on
  rows-landed [] rs h = h
  rows-landed (x ∷ xs) rs h = rows-landed xs (turn L x (lines_on xs) rs) (turn-landed x (lines_on xs) rs h)

  up-sound : (rs : List Row) (more : List Act) (below : List (List ℕ)) → landed below rs ≡ true → sound L.call more below ≡ true
      → sound L.call (acts_up rs more) (upon (row_lines rs) below) ≡ true
  unfolding acts_up landed sound upon row_lines
  up-sound [] more below h k = k
  up-sound (r ∷ rs) more below h k =
      up-sound rs (r.act ∷ more) (r.item.line ∷ below) (and_right (lands L.call r.act below) (landed (r.item.line ∷ below) rs) h)
      (and_both (and_left (lands L.call r.act below) (landed (r.item.line ∷ below) rs) h) k)

  rows-lines : (xs : List Item) (rs : List Row) → upon (row_lines (rows_of L xs rs)) [] ≡ upon (row_lines rs) (lines_on xs)
  unfolding rows_of lines_on upon
  rows-lines [] rs = refl
  rows-lines (x ∷ xs) rs = rows-lines xs (turn L x (lines_on xs) rs) ∙ ap (λ (ls : List (List ℕ)). upon ls (lines_on xs)) (turn_lines L x (lines_on xs) rs)

  -- every line that is taken in has so many lines below it as its act says, and the last of these is a call line; none is taken into itself, and none is gone
  pub calls-sound : (ls : List (List ℕ)) → sound L.call (rebuild_calls_acts L ls) ls ≡ true
  unfolding rebuild_calls_acts landed sound upon row_lines
  calls-sound ls =
      let xs : List Item = items_of ls (L.blocks ls) in
      let same : upon (row_lines (rows_of L xs [])) [] ≡ ls = rows-lines xs [] ∙ items-on L ls (L.blocks ls) in
      sym (ap (sound L.call (acts_up (rows_of L xs []) [])) same) ∙ up-sound (rows_of L xs []) [] [] (rows-landed xs [] refl) refl

  -- and each line stands, or is taken, line by line, into one that does
  pub calls-stay : (ls : List (List ℕ)) (n : ℕ) → n < length ls → Stays (drop n (rebuild_calls_acts L ls))
  calls-stay ls n h =
      let q = sound-length L.call (rebuild_calls_acts L ls) ls (calls-sound ls) in
      sound-stays L.call (rebuild_calls_acts L ls) ls (calls-sound ls) n (omega (arith, q))

  -- in the end none is lost: each stands, or one that stands holds its value
  pub calls_found : (ls : List (List ℕ)) → all found (fates_of (rebuild_calls_acts L ls)) ≡ true
  unfolding fates_of
  calls_found ls = sound-found L.call (rebuild_calls_acts L ls) ls 0 (calls-sound ls)

  -- the table of owners is the table of moves
  pub calls-moves : (ls : List (List ℕ)) → moves_of (rebuild_calls_acts L ls) ≡ owners_of (rebuild_calls_acts L ls)
  calls-moves ls = sound-moves L.call (rebuild_calls_acts L ls) ls (calls-sound ls)

  -- and a table of moves that lead down
  pub calls-down : (ls : List (List ℕ)) → all codes.sound (rebuild_calls_acts L ls) ≡ true
  calls-down ls = sound-down L.call (rebuild_calls_acts L ls) ls (calls-sound ls)
