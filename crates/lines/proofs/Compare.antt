-- Laws of comparing texts. Assumes nothing.
use Rattle.std.proofs.Common.{◌≡◌, ℕ, suc, ◌+◌, ◌-◌, ◌<◌, ◌≤◌, Bool, true, false, cond, ◌&&◌, eqb, leb, List, [], ◌∷◌, length, get_or, drop, sym, refl, ap, ◌∙◌, add-zero, add-one, arith, drop_of_length-le, get_or-drop, drop-cons, drop-drop, eq-eqb, eqb-true, le-leb, leb-false, leb-true}
use borrow.Author.Tests.{lt-leb}
use lib.Dec.{eqb-suc-zero}
use lib.ListN.{get_or-eq_default}
use Rattle.lines.proofs.Tests.{and-false, and-true, and_left, and_right, eqb-sym}
use Rattle.lines.proofs.LfLaws.{rest_of}
use Rattle.lines.specs.Lf.{part, up_to, prefixed, suffixed, same, holds}

-- ---- equal texts

-- equal by the test is equal
pub same-eq : (a b : List ℕ) → same a b ≡ true → a ≡ b
unfolding same
same-eq [] [] h = refl
same-eq [] (y ∷ b) h = cc
same-eq (x ∷ a) [] h = cc
same-eq (x ∷ a) (y ∷ b) h = cc (eqb-true x y (and_left (eqb x y) (same a b) h), same-eq a b (and_right (eqb x y) (same a b) h))

pub same_refl : (a : List ℕ) → same a a ≡ true
unfolding same
same_refl [] = refl
same_refl (x ∷ a) = rw (eq-eqb x x refl) (same_refl a)

-- texts of one length are equal where one is a prefix of the other, and others never are
pub same-long : (a b : List ℕ) → length a ≡ length b → prefixed a b ≡ same a b
unfolding same prefixed
same-long [] [] h = refl
same-long [] (y ∷ b) h = absurd (omega arith)
same-long (x ∷ a) [] h = absurd (omega arith)
same-long (x ∷ a) (y ∷ b) h = ap (λ (t : Bool). eqb x y && t) (same-long a b (omega arith))

pub same-short : (a b : List ℕ) → (length a ≡ length b → ⊥) → same a b ≡ false
unfolding same
same-short [] [] h = absurd (h refl)
same-short [] (y ∷ b) h = refl
same-short (x ∷ a) [] h = refl
same-short (x ∷ a) (y ∷ b) h = rw (same-short a b (λ e. h (ap suc e))) (and-false (eqb x y))

-- ---- a suffix

pub suffix-short : (p s : List ℕ) → length s < length p → suffixed p s ≡ false
unfolding suffixed
suffix-short p s h = rw (lt-leb (length p) (length s) h)

pub suffix-long : (p s : List ℕ) → length p ≤ length s → prefixed p (part (length s - length p) (length s) s) ≡ suffixed p s
unfolding suffixed
suffix-long p s h = rw (le-leb (length p) (length s) h) (ap (prefixed p) (rest_of s (length s - length p)))

-- ---- two bytes

two_bytes : (a b : ℕ) → eqb 0 a ≡ false → eqb 0 b ≡ false → (l : List ℕ) → prefixed (a ∷ b ∷ []) l ≡ eqb (get_or l 0 0) a && eqb (get_or l 1 0) b
unfolding prefixed
two_bytes a b p q [] = rw p
two_bytes a b p q (x ∷ []) = rw (eqb-sym x a, q)
two_bytes a b p q (x ∷ y ∷ l) = rw (eqb-sym x a, eqb-sym y b, and-true (eqb b y))

-- two bytes at a place, neither of them 0, by what is read there
pub two_at : (a b : ℕ) → eqb 0 a ≡ false → eqb 0 b ≡ false → (s : List ℕ) (i : ℕ) → prefixed (a ∷ b ∷ []) (drop i s) ≡ eqb (get_or s i 0) a && eqb (get_or s (i + 1) 0) b
two_at a b p q s i = two_bytes a b p q (drop i s) ∙ rw (get_or-drop i s 0 0, get_or-drop i s 1 0, add-zero i)

-- what is not 0 was not read past the end
pub byte-in : (s : List ℕ) (i : ℕ) → (get_or s i 0 ≡ 0 → ⊥) → i < length s
byte-in s i n = go (leb (length s) i) refl
  where
    go : (t : Bool) → leb (length s) i ≡ t → i < length s
    go true e = absurd (n (get_or-eq_default s 0 (leb-true (length s) i e)))
    go false e = leb-false (length s) i e

-- ---- a text somewhere in another

holds-here : (p l : List ℕ) → prefixed p l ≡ true → holds p l ≡ true
unfolding holds
holds-here p [] h = h
holds-here p (x ∷ xs) h = rw h

pub hold-empty : (p l : List ℕ) → length p ≡ 0 → holds p l ≡ true
unfolding prefixed
hold-empty [] l h = holds-here [] l refl
hold-empty (x ∷ p) l h = absurd (omega arith)

holds_on : (p : List ℕ) (x : ℕ) (xs : List ℕ) → prefixed p (x ∷ xs) ≡ false → holds p (x ∷ xs) ≡ holds p xs
unfolding holds
holds_on p x xs h = rw h

-- the empty text stands everywhere, and no other stands in the empty text
holds-none : (p : List ℕ) → holds p [] ≡ eqb (length p) 0
unfolding holds prefixed
holds-none [] = refl
holds-none (x ∷ p) = sym (eqb-suc-zero (length p))

-- it stands nowhere before the first place of its first byte
holds-up : (p l : List ℕ) → 0 < length p → holds p (drop (up_to (get_or p 0 0) l) l) ≡ holds p l
unfolding up_to prefixed
holds-up [] l h = absurd (omega arith)
holds-up (b ∷ p) [] h = refl
holds-up (b ∷ p) (x ∷ xs) h = go (eqb x b) refl (holds-up (b ∷ p) xs h)
  where
    go : (t : Bool) → eqb x b ≡ t → holds (b ∷ p) (drop (up_to b xs) xs) ≡ holds (b ∷ p) xs → holds (b ∷ p) (drop (cond t 0 (suc (up_to b xs))) (x ∷ xs)) ≡ holds (b ∷ p) (x ∷ xs)
    go true e on = refl
    go false e on = on ∙ sym (holds_on (b ∷ p) x xs (rw (eqb-sym b x, e)))

module _ (p s : List ℕ) (i : ℕ) where
  pub hold-here : prefixed p (part i (length s) s) ≡ true → holds p (drop i s) ≡ true
  hold-here h = holds-here p (drop i s) (ap (prefixed p) (sym (rest_of s i)) ∙ h)

  pub hold-on : i < length s → prefixed p (part i (length s) s) ≡ false → holds p (drop i s) ≡ holds p (drop (i + 1) s)
  hold-on k h = rw (add-one i, drop-cons s i 0 k) (holds_on p _ _ (ap (prefixed p) (sym (drop-cons s i 0 k) ∙ sym (rest_of s i)) ∙ h))

  pub hold-up : 0 < length p → (j : ℕ) → j ≡ i + up_to (get_or p 0 0) (drop i s) → holds p (drop j s) ≡ holds p (drop i s)
  hold-up h j q = ap (λ (n : ℕ). holds p (drop n s)) q ∙ ap (holds p) (sym (drop-drop (up_to (get_or p 0 0) (drop i s)) i s)) ∙ holds-up p (drop i s) h

  pub hold-end : length s ≤ i → holds p (drop i s) ≡ eqb (length p) 0
  hold-end h = ap (holds p) (drop_of_length-le s h) ∙ holds-none p
