-- Which characters are shown by their numbers, test by test. Assumes nothing.
use Prim.Native.Nat.{ℕ, ◌+◌, ◌*◌, ◌%◌}
use mathlib.Core.Path.{◌≡◌, sym, ap, ◌∙◌}
use mathlib.Core.Bool.{Bool, true, false, cond, not, ◌&&◌}
use mathlib.Core.List.{List}
use borrow.Author.Tests.{eq-eqb, ne_eqb}
use lib.Dec.{eqb}
use lib.ListN.{get_or}
use Rattle.optview.specs.Inner.Shown.{unseen_one, unseen_narrow, unseen_wide, unseen_len, is_sign, code_of}

module _ (s : List ℕ) (a : ℕ) (p : a ≡ get_or s 0 0) where
  one-as : (t : Bool) → unseen_one a ≡ t → unseen_one (get_or s 0 0) ≡ t
  one-as t h = ap unseen_one (sym p) ∙ h

  pub len-one : unseen_one a ≡ true → 1 ≡ unseen_len s
  len-one h = rw (one-as true h)

  module _ (h : unseen_one a ≡ false) (b : ℕ) (q : b ≡ get_or s 1 0) where
    two-as : (t : Bool) → unseen_narrow a b ≡ t → unseen_narrow (get_or s 0 0) (get_or s 1 0) ≡ t
    two-as t k = ap (λ (x : ℕ). unseen_narrow x (get_or s 1 0)) (sym p) ∙ ap (unseen_narrow a) (sym q) ∙ k

    pub len-two : unseen_narrow a b ≡ true → 2 ≡ unseen_len s
    len-two k = rw (one-as false h, two-as true k)

    module _ (k : unseen_narrow a b ≡ false) (c : ℕ) (r : c ≡ get_or s 2 0) where
      three-as : (t : Bool) → unseen_wide a b c ≡ t → unseen_wide (get_or s 0 0) (get_or s 1 0) (get_or s 2 0) ≡ t
      three-as t l = ap (λ (x : ℕ). unseen_wide x (get_or s 1 0) (get_or s 2 0)) (sym p) ∙ ap (λ (x : ℕ). unseen_wide a x (get_or s 2 0)) (sym q) ∙ ap (unseen_wide a b) (sym r) ∙ l

      pub len-three : unseen_wide a b c ≡ true → 3 ≡ unseen_len s
      len-three l = rw (one-as false h, two-as false k, three-as true l)

      pub len-none : unseen_wide a b c ≡ false → 0 ≡ unseen_len s
      len-none l = rw (one-as false h, two-as false k, three-as false l)

pub seen_as : (s : List ℕ) (n a : ℕ) (b : Bool) → n ≡ unseen_len s → a ≡ get_or s 0 0 → b ≡ is_sign a → (eqb n 0 && not b) ≡ (eqb (unseen_len s) 0 && not (is_sign (get_or s 0 0)))
seen_as s n a b p q r = ap (λ (x : ℕ). eqb x 0 && not b) p ∙ ap (λ (x : Bool). eqb (unseen_len s) 0 && not x) (r ∙ ap is_sign q)

other-by : (n m : ℕ) → n ≡ m → (t : Bool) → eqb n 0 ≡ t → cond t 1 n ≡ cond (eqb m 0) 1 m
other-by n m p t h = ap (λ (x : Bool). cond x 1 n) (sym h) ∙ ap (λ (x : ℕ). cond (eqb x 0) 1 x) p

pub other-one : (s : List ℕ) (n : ℕ) → n ≡ unseen_len s → n ≡ 0 → 1 ≡ cond (eqb (unseen_len s) 0) 1 (unseen_len s)
other-one s n p h = other-by n (unseen_len s) p true (eq-eqb n 0 h)

pub other-more : (s : List ℕ) (n : ℕ) → n ≡ unseen_len s → (n ≡ 0 → ⊥) → n ≡ cond (eqb (unseen_len s) 0) 1 (unseen_len s)
other-more s n p h = other-by n (unseen_len s) p false (ne_eqb n 0 h)

module _ (s : List ℕ) (n a b c : ℕ) (p : a ≡ get_or s 0 0) (q : b ≡ get_or s 1 0) (r : c ≡ get_or s 2 0) where
  pub code_one : n ≡ 1 → a ≡ code_of s n
  code_one h = rw (eq-eqb n 1 h) p

  pub code-two : (n ≡ 1 → ⊥) → n ≡ 2 → a % 32 * 64 + b % 64 ≡ code_of s n
  code-two g h = rw (ne_eqb n 1 g, eq-eqb n 2 h) (ap (λ (x : ℕ). x % 32 * 64 + b % 64) p ∙ ap (λ (x : ℕ). get_or s 0 0 % 32 * 64 + x % 64) q)

  pub code-three : (n ≡ 1 → ⊥) → (n ≡ 2 → ⊥) → a % 16 * 4096 + b % 64 * 64 + c % 64 ≡ code_of s n
  code-three g h =
      rw (ne_eqb n 1 g, ne_eqb n 2 h)
      (ap (λ (x : ℕ). x % 16 * 4096 + b % 64 * 64 + c % 64) p ∙ ap (λ (x : ℕ). get_or s 0 0 % 16 * 4096 + x % 64 * 64 + c % 64) q ∙ ap (λ (x : ℕ). get_or s 0 0 % 16 * 4096 + get_or s 1 0 % 64 * 64 + x % 64) r)
