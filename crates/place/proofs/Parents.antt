-- The table of parents gives the numbers of the stack, for any reading of braces, and how it is kept in lent room. Assumes nothing.
use Prim.Native.Nat.{ℕ, zero, suc, ◌+◌, ◌-◌, ◌≤◌, ◌<◌}
use mathlib.Core.Path.{◌≡◌, refl, sym, ap, ◌∙◌, subst}
use mathlib.Core.List.{List, [], ◌∷◌, ◌++◌}
use native.Mathlib.Omega.{arith}
use borrow.Author.Tests.{eq-eqb, ne_eqb}
use lib.ListN.{length, get_or, set, take, replicate, length-append, get_or-append, get_or-eq_default, length-take}
use lib.Seq.{get_or-append_seam, get_or-take, length-take-le}
use Rattle.place.specs.Blocks.{Brace, opens, closes, neither, brace_of, push, count, top, blocks}
use Rattle.place.specs.Inner.Blocks.{block_ids}
use Rattle.place.specs.Paths.{block_paths, tops}
use Rattle.place.specs.Inner.Parents.{around, cur_at, ups_at, cur_by, ups_by, Room, Moved, braces, notes_go, ids_pre, ids_post, path_pre, path_post}
use Rattle.place.proofs.Stacks.{walk, tally, noted}
use Rattle.place.proofs.Blocks.{blocks-noted}
use Rattle.place.proofs.Paths.{paths-noted}
use Rattle.place.proofs.Fills.{filled-once, filled_none, filled-set, filled-then, filled-take, filled-length, filled-as}

-- ---- braces one after the other

pub cur-append : (xs ys : List Brace) (c : ℕ) (ups : List ℕ) → cur_by (xs ++ ys) c ups ≡ cur_by ys (cur_by xs c ups) (ups_by xs c ups)
unfolding cur_by ups_by
cur-append [] ys c ups = refl
cur-append (x ∷ xs) ys c ups = cur-append xs ys (cur_at x c ups) (ups_at x c ups)

pub ups-append : (xs ys : List Brace) (c : ℕ) (ups : List ℕ) → ups_by (xs ++ ys) c ups ≡ ups_by ys (cur_by xs c ups) (ups_by xs c ups)
unfolding cur_by ups_by
ups-append [] ys c ups = refl
ups-append (x ∷ xs) ys c ups = ups-append xs ys (cur_at x c ups) (ups_at x c ups)

-- ---- the table only grows

at-grow : (b : Brace) (c : ℕ) (ups : List ℕ) → length ups ≤ length (ups_at b c ups)
unfolding ups_at
at-grow opens c ups = omega (arith, length-append ups (c ∷ []))
at-grow closes c ups = omega arith
at-grow neither c ups = omega arith

pub by-grow : (bs : List Brace) (c : ℕ) (ups : List ℕ) → length ups ≤ length (ups_by bs c ups)
unfolding ups_by
by-grow [] c ups = omega arith
by-grow (b ∷ bs) c ups = let p = at-grow b c ups in let q = by-grow bs (cur_at b c ups) (ups_at b c ups) in omega arith

pub notes-length : (pre post : List ℕ → List Brace) (ls : List (List ℕ)) (c : ℕ) (ups : List ℕ) → length (notes_go pre post ls c ups) ≡ length ls
unfolding notes_go
notes-length pre post [] c ups = refl
notes-length pre post (l ∷ ls) c ups = ap suc (notes-length pre post ls (cur_by (pre l ++ post l) c ups) (ups_by (pre l ++ post l) c ups))

-- ---- from the block c the table leads through the stack s to the outside

data Chain (ups : List ℕ) : ℕ → List ℕ → Type 0 where
  ground : Chain ups 0 []
  link : {c : ℕ} {s : List ℕ} (k : ℕ) → k < length ups → get_or ups k 0 ≡ c → Chain ups c s → Chain ups (suc k) (suc k ∷ s)

chain-grow : {ups : List ℕ} {c : ℕ} {s : List ℕ} (more : List ℕ) → Chain ups c s → Chain (ups ++ more) c s
chain-grow {ups} more ground = ground
chain-grow {ups} more (link k p e h) = link k (omega (arith, length-append ups more)) (get_or-append ups more 0 k p ∙ e) (chain-grow more h)

chain-top : {ups : List ℕ} {c : ℕ} {s : List ℕ} → Chain ups c s → c ≡ top s
unfolding top
chain-top ground = refl
chain-top (link k p e h) = refl

snoc-length : (ups : List ℕ) (c : ℕ) → length (ups ++ c ∷ []) ≡ suc (length ups)
snoc-length ups c = omega (arith, length-append ups (c ∷ []))

chain_by : (b : Brace) {ups : List ℕ} {c : ℕ} {s : List ℕ} → Chain ups c s → Chain (ups_at b c ups) (cur_at b c ups) (push b (suc (length ups)) s)
unfolding ups_at cur_at push around
chain_by opens {ups} {c} h = link (length ups) (omega (arith, snoc-length ups c)) (get_or-append_seam ups c [] 0) (chain-grow (c ∷ []) h)
chain_by closes {ups} ground = ground
chain_by closes {ups} (link {s = s} k p e h) = subst (λ (y : ℕ). Chain ups y s) (sym e) h
chain_by neither h = h

ups-count : (b : Brace) (c : ℕ) (ups : List ℕ) → suc (length (ups_at b c ups)) ≡ count b (suc (length ups))
unfolding ups_at count
ups-count opens c ups = ap suc (snoc-length ups c)
ups-count closes c ups = refl
ups-count neither c ups = refl

ups-tally : (bs : List Brace) (c : ℕ) (ups : List ℕ) → suc (length (ups_by bs c ups)) ≡ tally bs (suc (length ups))
unfolding ups_by tally
ups-tally [] c ups = refl
ups-tally (b ∷ bs) c ups = ups-tally bs (cur_at b c ups) (ups_at b c ups) ∙ ap (tally bs) (ups-count b c ups)

chain-walk : (bs : List Brace) {ups : List ℕ} {c : ℕ} {s : List ℕ} → Chain ups c s → Chain (ups_by bs c ups) (cur_by bs c ups) (walk bs (suc (length ups)) s)
unfolding ups_by cur_by walk
chain-walk [] h = h
chain-walk (b ∷ bs) {ups} {c} {s} h =
    subst (λ (n : ℕ). Chain (ups_by bs (cur_at b c ups) (ups_at b c ups)) (cur_by bs (cur_at b c ups) (ups_at b c ups)) (walk bs n (push b (suc (length ups)) s)))
    (ups-count b c ups) (chain-walk bs (chain_by b h))

module _ (pre post : List ℕ → List Brace) where
  notes-go : (ls : List (List ℕ)) {ups : List ℕ} {c : ℕ} {s : List ℕ} → Chain ups c s → notes_go pre post ls c ups ≡ tops (noted pre post ls (suc (length ups)) s)
  unfolding notes_go noted tops
  notes-go [] h = refl
  notes-go (l ∷ ls) {ups} {c} {s} h =
      let bs : List Brace = pre l ++ post l in
      ap (λ (x : ℕ). x ∷ notes_go pre post ls (cur_by bs c ups) (ups_by bs c ups)) (chain-top (chain-walk (pre l) h))
      ∙ ap (λ (r : List ℕ). top (walk (pre l) (suc (length ups)) s) ∷ r)
      (notes-go ls (chain-walk bs h) ∙ ap (λ (n : ℕ). tops (noted pre post ls n (walk bs (suc (length ups)) s))) (ups-tally bs c ups))

  pub notes-noted : (ls : List (List ℕ)) → notes_go pre post ls 0 [] ≡ tops (noted pre post ls 1 [])
  notes-noted ls = notes-go ls ground

-- the two tables
pub ids-notes : (ls : List (List ℕ)) → notes_go ids_pre ids_post ls 0 [] ≡ block_ids ls
unfolding blocks
ids-notes ls = notes-noted ids_pre ids_post ls ∙ sym (blocks-noted ls 1 [])

pub path-notes : (ls : List (List ℕ)) → notes_go path_pre path_post ls 0 [] ≡ tops (block_paths ls)
unfolding block_paths
path-notes ls = notes-noted path_pre path_post ls ∙ ap tops (sym (paths-noted ls 1 []))

-- ---- the block around another, read from the table

pub around-none : (c : ℕ) (ups : List ℕ) → c ≡ 0 → 0 ≡ around c ups
unfolding around
around-none zero ups e = refl
around-none (suc k) ups e = absurd (omega arith)

module _ (c k n : ℕ) (u : List ℕ) (z : c ≡ 0 → ⊥) (q : k ≡ c - 1) where
  pub around-known : k < n → get_or u k 0 ≡ around c (take n u)
  unfolding around
  around-known h = go c z q
    where
      go : (x : ℕ) → (x ≡ 0 → ⊥) → k ≡ x - 1 → get_or u k 0 ≡ around x (take n u)
      go zero y r = absurd (y refl)
      go (suc x) y r = let e : k ≡ x = omega arith in sym (get_or-take n u k 0 h) ∙ ap (λ (m : ℕ). get_or (take n u) m 0) e

  pub around-unknown : n ≤ k → 0 ≡ around c (take n u)
  unfolding around
  around-unknown h = go c z q
    where
      go : (x : ℕ) → (x ≡ 0 → ⊥) → k ≡ x - 1 → 0 ≡ around x (take n u)
      go zero y r = absurd (y refl)
      go (suc x) y r = let e : k ≡ x = omega arith in sym (get_or-eq_default (take n u) 0 (omega (arith, length-take n u)))

-- one block further out
pub out-on : (j b : ℕ) (ups : List ℕ) → 0 < j → cur_by (replicate j closes) b ups ≡ cur_by (replicate (j - 1) closes) (around b ups) ups
unfolding cur_by cur_at ups_at
out-on zero b ups h = absurd (omega arith)
out-on (suc j) b ups h = let z : j ≡ suc j - 1 = omega arith in ap (λ (m : ℕ). cur_by (replicate m closes) (around b ups) ups) z

pub out-end : (j b : ℕ) (ups : List ℕ) → j ≤ 0 → cur_by (replicate j closes) b ups ≡ b
unfolding cur_by
out-end zero b ups h = refl
out-end (suc j) b ups h = absurd (omega arith)

-- closing adds nothing
pub out-ups : (j b : ℕ) (ups : List ℕ) → ups_by (replicate j closes) b ups ≡ ups
unfolding ups_by ups_at
out-ups zero b ups = refl
out-ups (suc j) b ups = out-ups j (cur_at closes b ups) ups

-- ---- which brace a byte is

pub brace-open : (b : ℕ) → b ≡ 123 → brace_of b ∷ [] ≡ opens ∷ []
unfolding brace_of
brace-open b e = rw (eq-eqb b 123 e)

pub brace-close : (b : ℕ) → b ≡ 125 → brace_of b ∷ [] ≡ closes ∷ []
unfolding brace_of
brace-close b e = rw (ne_eqb b 123 (λ z. omega arith), eq-eqb b 125 e)

pub brace-plain : (b : ℕ) → (b ≡ 123 → ⊥) → (b ≡ 125 → ⊥) → brace_of b ∷ [] ≡ neither ∷ []
unfolding brace_of
brace-plain b p q = rw (ne_eqb b 123 p, ne_eqb b 125 q)

-- ---- the table in lent room

module _ (c : ℕ) (u : List ℕ) (n : ℕ) (h : n ≤ length u) where
  pub moved_none : Moved [] c u n c u n
  unfolding cur_by ups_by
  moved_none = record { cur = refl; filled = filled_none u n h }

  pub moved_plain : Moved (neither ∷ []) c u n c u n
  unfolding cur_by ups_by cur_at ups_at
  moved_plain = record { cur = refl; filled = filled_none u n h }

  -- the `S` of a literal is no brace
  pub left-literal : Moved (braces (83 ∷ [])) c u n c u n
  unfolding braces brace_of
  left-literal = moved_plain

  pub moved-close : (a : ℕ) → a ≡ around c (take n u) → Moved (closes ∷ []) c u n a u n
  unfolding cur_by ups_by cur_at ups_at
  moved-close a e = record { cur = e; filled = filled_none u n h }

pub moved_open : (c : ℕ) (u : List ℕ) (n : ℕ) → n < length u → Moved (opens ∷ []) c u n (n + 1) (set u n c) (n + 1)
unfolding cur_by ups_by cur_at ups_at
moved_open c u n h = record { cur = omega (arith, length-take-le n u (omega arith)); filled = filled-set u n c h }

-- room for a block that opens
pub room_open : {c : ℕ} {u : List ℕ} {n : ℕ} → Room (opens ∷ []) c u n → n < length u
unfolding ups_by ups_at
room_open {c} {u} {n} r = let f = r.fits in omega (arith, length-append (take n u) (c ∷ []), length-take-le n u r.known)

pub room_as : {bs ds : List Brace} {c : ℕ} {u : List ℕ} {n : ℕ} → bs ≡ ds → Room bs c u n → Room ds c u n
room_as {bs} {ds} {c} {u} {n} e r = subst (λ (x : List Brace). Room x c u n) e r

pub moved_as : {bs ds : List Brace} {c : ℕ} {u : List ℕ} {n b : ℕ} {u' : List ℕ} {r : ℕ} → bs ≡ ds → Moved bs c u n b u' r → Moved ds c u n b u' r
moved_as {bs} {ds} {c} {u} {n} {b} {u'} {r} e m = subst (λ (x : List Brace). Moved x c u n b u' r) e m

pub moved-take : {bs : List Brace} {c : ℕ} {u : List ℕ} {n b : ℕ} {u' : List ℕ} {r : ℕ} → Moved bs c u n b u' r → take r u' ≡ ups_by bs c (take n u)
moved-take m = filled-take m.filled

pub moved_then : {xs ys : List Brace} {c : ℕ} {u : List ℕ} {n b : ℕ} {u₁ : List ℕ} {m d : ℕ} {u₂ : List ℕ} {r : ℕ} →
    Moved xs c u n b u₁ m → Moved ys b u₁ m d u₂ r → Moved (xs ++ ys) c u n d u₂ r
moved_then {xs} {ys} {c} {u} {n} {b} {u₁} {m} {d} {u₂} {r} f g =
    let t : take m u₁ ≡ ups_by xs c (take n u) = moved-take f in
    let e : ups_by ys b (take m u₁) ≡ ups_by (xs ++ ys) c (take n u) =
    ap (ups_by ys b) t ∙ ap (λ (x : ℕ). ups_by ys x (ups_by xs c (take n u))) f.cur ∙ sym (ups-append xs ys c (take n u)) in
    record {
      cur = g.cur ∙ ap (cur_by ys b) t ∙ ap (λ (x : ℕ). cur_by ys x (ups_by xs c (take n u))) f.cur ∙ sym (cur-append xs ys c (take n u));
      filled = filled-then f.filled (filled-as e g.filled)
          (let a = by-grow ys (cur_by xs c (take n u)) (ups_by xs c (take n u)) in let b = ap length (ups-append xs ys c (take n u)) in omega arith);
    }

-- what was moved says which block is open, what the table is now, and how many entries it has
pub moved-once : {bs : List Brace} {c : ℕ} {u : List ℕ} {n b₁ b₂ : ℕ} {u₁ u₂ : List ℕ} {r₁ r₂ : ℕ} →
    Moved bs c u n b₁ u₁ r₁ → Moved bs c u n b₂ u₂ r₂ → (b₁ ≡ b₂) × ((u₁ ≡ u₂) × (r₁ ≡ r₂))
moved-once f g = (f.cur ∙ sym g.cur, filled-once f.filled g.filled)

-- of the room for all there is room for the first, the table keeps its length, and there is room for what follows
module _ (xs ys : List Brace) {c : ℕ} {u : List ℕ} {n : ℕ} (h : Room (xs ++ ys) c u n) where
  room_fits : length (ups_by xs c (take n u)) ≤ length u
  room_fits =
      let f = h.fits in
      let a = by-grow ys (cur_by xs c (take n u)) (ups_by xs c (take n u)) in
      let b = ap length (ups-append xs ys c (take n u)) in
      omega arith

  pub room-first : Room xs c u n
  room-first = record { known = h.known; fits = room_fits; small = h.small }

  module _ {b : ℕ} {u₁ : List ℕ} {m : ℕ} (f : Moved xs c u n b u₁ m) where
    pub room-length : length u₁ ≡ length u
    room-length = filled-length f.filled room_fits

    pub room-then : Room ys b u₁ m
    room-then =
        let l = room-length in
        let p = f.filled.place in
        let q = room_fits in
        let s = h.small in
        let r = h.fits in
        let e : length (ups_by ys b (take m u₁)) ≡ length (ups_by (xs ++ ys) c (take n u)) =
        ap (λ (x : List ℕ). length (ups_by ys b x)) (moved-take f) ∙ ap (λ (x : ℕ). length (ups_by ys x (ups_by xs c (take n u)))) f.cur
        ∙ ap length (sym (ups-append xs ys c (take n u))) in
        record { known = omega arith; fits = omega arith; small = omega arith }

-- closing k blocks
pub moved-closes : (k c : ℕ) (u : List ℕ) (n b : ℕ) → n ≤ length u → b ≡ cur_by (replicate k closes) c (take n u) → Moved (replicate k closes) c u n b u n
moved-closes k c u n b h e = record { cur = e; filled = filled-as (sym (out-ups k c (take n u))) (filled_none u n h) }
