-- Laws of the places of numbers in a table: two numbers never share one. Assumes nothing.
use Rattle.std.proofs.Common.{◌≡◌, ℕ, zero, suc, ◌+◌, ◌-◌, ◌%◌, ◌<◌, ◌≤◌, Bool, true, false, cond, ◌||◌, eqb, ltb, List, ◌∷◌, ◌++◌, length, get_or, take, drop, replicate, sym, refl, ap, ◌∙◌, arith, length-set, get_or-set_other, get_or-set_same, ltb-false, ltb-true, le-ltb, lt-ltb, eq-eqb, ne_eqb, eqb-true}
use borrow.Author.Tests.{eqb-false}
use lib.ListN.{length-replicate}
use Rattle.lines.specs.Inner.Out.{put_at, Wrote}
use Rattle.lines.proofs.OutLaws.{wrote-whole}
use Rattle.slots.specs.Inner.Slots.{spot_go, spot, seek, slot_of, entry_of, with_entry}

-- ---- looking for the place of a number, with k places left to look at

module _ (own : List ℕ) (i v : ℕ) where
  pub spot_past : (k : ℕ) → length own ≤ i → spot_go k own i v ≡ length own
  unfolding spot_go
  spot_past zero h = refl
  spot_past (suc k) h = rw (le-ltb i (length own) h)

  pub spot-here : (k : ℕ) → 0 < k → i < length own → (eqb (get_or own i 0) v || eqb (get_or own i 0) 0) ≡ true → spot_go k own i v ≡ i
  unfolding spot_go
  spot-here zero l h e = omega arith
  spot-here (suc k) l h e = rw (lt-ltb i (length own) h, e)

  pub spot_on : (k : ℕ) → 0 < k → i < length own → (eqb (get_or own i 0) v || eqb (get_or own i 0) 0) ≡ false → spot_go k own i v ≡ spot_go (k - 1) own (i + 1) v
  unfolding spot_go
  spot_on zero l h e = omega arith
  spot_on (suc k) l h e = let y : k ≡ suc k - 1 = omega arith in rw (lt-ltb i (length own) h, e) (ap (λ (m : ℕ). spot_go m own (i + 1) v) y)

  pub spot-none : (k : ℕ) → k ≤ 0 → spot_go k own i v ≡ length own
  unfolding spot_go
  spot-none zero h = refl
  spot-none (suc k) h = omega arith

-- none is left to look at, or the place is past the owners
pub spot-out : (own : List ℕ) (i v k : ℕ) → (0 < k → length own ≤ i) → spot_go k own i v ≡ length own
spot-out own i v zero f = spot-none own i v zero (omega arith)
spot-out own i v (suc k) f = spot_past own i v (suc k) (f (omega arith))

pub spot-most : (k : ℕ) (own : List ℕ) (i v : ℕ) → spot_go k own i v ≤ length own
unfolding spot_go
spot-most zero own i v = omega arith
spot-most (suc k) own i v = by (ltb i (length own)) refl (eqb (get_or own i 0) v || eqb (get_or own i 0) 0) (spot-most k own (i + 1) v)
  where
    by : (a : Bool) → ltb i (length own) ≡ a → (b : Bool) → spot_go k own (i + 1) v ≤ length own → cond a (cond b i (spot_go k own (i + 1) v)) (length own) ≤ length own
    by true e true on = let l = ltb-true i (length own) e in omega arith
    by true e false on = on
    by false e b on = omega arith

-- ---- the place that is a number's own

module _ (own : List ℕ) (v : ℕ) where
  pub seek-here : get_or own (spot own v) 0 ≡ v → seek own v ≡ spot own v
  unfolding seek
  seek-here e = rw (eq-eqb (get_or own (spot own v) 0) v e)

  pub seek-not : (get_or own (spot own v) 0 ≡ v → ⊥) → seek own v ≡ length own
  unfolding seek
  seek-not e = rw (ne_eqb (get_or own (spot own v) 0) v e)

  pub seek-end : length own ≤ spot own v → seek own v ≡ spot own v
  unfolding seek
  seek-end h = by (eqb (get_or own (spot own v) 0) v) (spot-most 32 own (v % length own) v)
    where
      by : (b : Bool) → spot own v ≤ length own → cond b (spot own v) (length own) ≡ spot own v
      by true m = refl
      by false m = omega (arith, h, m)

  pub seek-own : seek own v < length own → get_or own (seek own v) 0 ≡ v
  unfolding seek
  seek-own = by (eqb (get_or own (spot own v) 0) v) refl
    where
      by : (b : Bool) → eqb (get_or own (spot own v) 0) v ≡ b → cond b (spot own v) (length own) < length own → get_or own (cond b (spot own v) (length own)) 0 ≡ v
      by true e h = eqb-true (get_or own (spot own v) 0) v e
      by false e h = omega arith

  pub seek-most : seek own v ≤ length own
  unfolding seek
  seek-most = by (eqb (get_or own (spot own v) 0) v) (spot-most 32 own (v % length own) v)
    where
      by : (b : Bool) → spot own v ≤ length own → cond b (spot own v) (length own) ≤ length own
      by true m = m
      by false m = omega arith

-- ---- places in a table of n entries

module _ (n : ℕ) (own : List ℕ) where
  pub slot-low : (v : ℕ) → v < n - length own → slot_of n own v ≡ v
  unfolding slot_of
  slot-low v h = rw (lt-ltb v (n - length own) h)

  pub slot-high : (v : ℕ) → n - length own ≤ v → slot_of n own v ≡ n - length own + seek own v
  unfolding slot_of
  slot-high v h = rw (le-ltb v (n - length own) h)

  -- of two numbers that have a place in it, each has its own
  pub slot_apart : (v w : ℕ) → slot_of n own v < n → slot_of n own v ≡ slot_of n own w → v ≡ w
  slot_apart v w h e = by (ltb v (n - length own)) (ltb w (n - length own)) refl refl
    where
      by : (a b : Bool) → ltb v (n - length own) ≡ a → ltb w (n - length own) ≡ b → v ≡ w
      by true true p q = sym (slot-low v (ltb-true v _ p)) ∙ e ∙ slot-low w (ltb-true w _ q)
      by true false p q = let x = slot-low v (ltb-true v _ p) in let y = slot-high w (ltb-false w _ q) in let l = ltb-true v _ p in omega (arith, x, y, l, e)
      by false true p q = let x = slot-high v (ltb-false v _ p) in let y = slot-low w (ltb-true w _ q) in let l = ltb-true w _ q in omega (arith, x, y, l, e)
      by false false p q =
          let x = slot-high v (ltb-false v _ p) in
          let y = slot-high w (ltb-false w _ q) in
          let z : seek own v ≡ seek own w = omega (arith, x, y, e) in
          let l : seek own v < length own = omega (arith, x, h) in
          let m : seek own w < length own = omega (arith, z, l) in
          sym (seek-own own v l) ∙ ap (λ (i : ℕ). get_or own i 0) z ∙ seek-own own w m

-- ---- the entries of a table

module _ (own : List ℕ) (d : List ℕ) (v x : ℕ) where
  pub entry_length : length (with_entry own v x d) ≡ length d
  entry_length = length-set d (slot_of (length d) own v) x

  -- the place of a number is the same in a table of the same length
  pub entry-slot : (w : ℕ) → slot_of (length (with_entry own v x d)) own w ≡ slot_of (length d) own w
  entry-slot w = ap (λ (n : ℕ). slot_of n own w) entry_length

  pub entry-same : slot_of (length d) own v < length d → entry_of own v (with_entry own v x d) ≡ x
  entry-same h = ap (λ (i : ℕ). get_or (with_entry own v x d) i 0) (entry-slot v) ∙ get_or-set_same d (slot_of (length d) own v) x 0 h

  pub entry_other : (w : ℕ) → slot_of (length d) own w < length d → (v ≡ w → ⊥) → entry_of own w (with_entry own v x d) ≡ entry_of own w d
  entry_other w h o = ap (λ (i : ℕ). get_or (with_entry own v x d) i 0) (entry-slot w)
      ∙ get_or-set_other d (slot_of (length d) own v) (slot_of (length d) own w) x 0 (λ e. o (sym (slot_apart (length d) own w v h e)))

-- a number that has a place in a table has one in every table of the same length
pub slot_kept : (own d d' : List ℕ) (v : ℕ) → length d' ≡ length d → slot_of (length d) own v < length d → slot_of (length d') own v < length d'
slot_kept own d d' v e h = rw e h

-- the number v has a place in the table d
abbrev pub Placed : List ℕ → ℕ → List ℕ → Type 0
Placed own v d = slot_of (length d) own v < length d

-- its entry after the number u got the entry x
pub entry-after : (own d : List ℕ) (u x v : ℕ) → Placed own v d → entry_of own v (with_entry own u x d) ≡ cond (eqb u v) x (entry_of own v d)
entry-after own d u x v h = go (eqb u v) refl
  where
    go : (b : Bool) → eqb u v ≡ b → entry_of own v (with_entry own u x d) ≡ cond b x (entry_of own v d)
    go true e = ap (λ (n : ℕ). entry_of own v (with_entry own n x d)) (eqb-true u v e) ∙ entry-same own d v x h
    go false e = entry_other own d u x v h (eqb-false u v e)

-- ---- tables of zeros

pub zeros-long : {d : List ℕ} (n : ℕ) → d ≡ replicate n 0 → length d ≡ n
zeros-long {d} n e = ap length e ∙ length-replicate {A = ℕ} n 0

-- the front of one
pub zeros-take : (k n : ℕ) {d : List ℕ} → d ≡ replicate n 0 → k ≤ n → take k d ≡ replicate k 0
zeros-take k n e h = ap (take k) e ∙ go k n h
  where
    go : (k n : ℕ) → k ≤ n → take {A = ℕ} k (replicate n 0) ≡ replicate k 0
    go zero n h = refl
    go (suc k) zero h = absurd (omega arith)
    go (suc k) (suc n) h = ap (λ (l : List ℕ). 0 ∷ l) (go k n (omega arith))

-- what was lent of it, in the place of its front, leaves its length
pub zeros-again : (k n : ℕ) (w : List ℕ) {d u : List ℕ} → d ≡ replicate n 0 → length (w ++ drop k d) ≡ length d → u ≡ replicate (length (w ++ drop k d)) 0 → u ≡ replicate n 0
zeros-again k n w e f g = g ∙ ap (λ (m : ℕ). replicate m 0) (f ∙ zeros-long n e)

-- ---- wiping

-- a table that is wiped as far as it is long
pub wiped-zeros : {d d' : List ℕ} {m n r : ℕ} → m ≡ length d → length d ≡ n → Wrote d 0 (replicate m 0) d' r → d' ≡ replicate n 0
wiped-zeros {m = m} e f w = wrote-whole w (length-replicate {A = ℕ} m 0 ∙ e) ∙ ap (λ (k : ℕ). replicate k 0) (e ∙ f)

-- what stood in the first n entries before they were wiped is gone
pub wiped-past : (n : ℕ) (c d d' : List ℕ) → drop n d ≡ drop n c → length d ≡ length c → Wrote d 0 (replicate n 0) d' n → Wrote c 0 (replicate n 0) d' n
unfolding put_at
wiped-past n c d d' e s w = record {
  fits = omega (arith, w.fits);
  place = w.place;
  holds =
      let z : 0 + length (replicate {A = ℕ} n 0) ≡ n = omega (arith, length-replicate {A = ℕ} n 0) in
      w.holds ∙ ap (λ (k : ℕ). replicate n 0 ++ drop k d) z ∙ ap (λ (r : List ℕ). replicate n 0 ++ r) e ∙ ap (λ (k : ℕ). replicate n 0 ++ drop k c) (sym z);
}
