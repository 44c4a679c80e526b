-- Digits, a byte at a time: tests of every byte, numbers, and the zeros that lead. Assumes nothing.
use Prim.Native.Nat.{ℕ, suc, ◌+◌, ◌-◌, ◌*◌, ◌^◌, ◌≤◌, ◌<◌}
use mathlib.Core.Path.{◌≡◌, refl, sym, ap, ◌∙◌}
use mathlib.Core.Bool.{Bool, true, false, cond, ◌&&◌}
use mathlib.Core.List.{List, [], ◌∷◌, ◌++◌}
use native.Mathlib.Nat.{le_refl, le_trans, pow-le-pow_right, pow-suc}
use native.Mathlib.Numerals.{add-one}
use native.Mathlib.Omega.{arith}
use borrow.Author.Tests.{le-ltb, lt-ltb, ltb-true, eq-eqb, ne_eqb, eqb-true}
use lib.Dec.{ltb, eqb}
use lib.ListN.{length, get_or, drop, length-drop, drop_of_length-le}
use lib.Seq.{drop-cons}
use Rattle.lines.specs.Lf.{all}
use Rattle.lines.proofs.Tests.{and-false, and_left, and_right, and_both}
use Rattle.std.specs.declared.option.Option.TheVariants.{Some, None}
use Rattle.names.specs.Names.{is_digit, all_digits, value, numbered, read_number}
use Rattle.names.specs.Inner.Names.{zeros}

-- ---- every byte passes a test

module _ (f : ℕ → Bool) (s : List ℕ) (i : ℕ) where
  pub all-stop : i < length s → f (get_or s i 0) ≡ false → all f (drop i s) ≡ false
  all-stop h e = rw (drop-cons s i 0 h, e)

  pub all_end : length s ≤ i → all f (drop i s) ≡ true
  all_end h = rw (drop_of_length-le s h)

pub all_append : (f : ℕ → Bool) (xs ys : List ℕ) → all f xs ≡ true → all f ys ≡ true → all f (xs ++ ys) ≡ true
all_append f [] ys p q = q
all_append f (x ∷ xs) ys p q = and_both (and_left (f x) (all f xs) p) (all_append f xs ys (and_right (f x) (all f xs) p) q)

pub all_more : (f g : ℕ → Bool) → ((x : ℕ) → f x ≡ true → g x ≡ true) → (xs : List ℕ) → all f xs ≡ true → all g xs ≡ true
all_more f g t [] p = refl
all_more f g t (x ∷ xs) p = and_both (t x (and_left (f x) (all f xs) p)) (all_more f g t xs (and_right (f x) (all f xs) p))

-- ---- numbers

value-ge : (ds : List ℕ) (v : ℕ) → v ≤ value v ds
value-ge [] v = le_refl v
value-ge (d ∷ ds) v = le_trans {m = v * 10 + (d - 48)} (omega arith) (value-ge ds (v * 10 + (d - 48)))

pub value-append : (xs ys : List ℕ) (v : ℕ) → value v (xs ++ ys) ≡ value (value v xs) ys
value-append [] ys v = refl
value-append (x ∷ xs) ys v = value-append xs ys (v * 10 + (x - 48))

-- past 64 bits no digits bring it back
pub too_large : (ds : List ℕ) (v : ℕ) → 2 ^ 64 ≤ v → numbered v ds ≡ None
unfolding numbered
too_large ds v h = simp (le-ltb (value v ds) (2 ^ 64) (le_trans h (value-ge ds v)), and-false)

pub number-end : (v : ℕ) → v < 2 ^ 64 → numbered v [] ≡ Some v
unfolding numbered
number-end v h = simp (lt-ltb v (2 ^ 64) h)

on : (v d : ℕ) (ds : List ℕ) → is_digit d ≡ true → numbered v (d ∷ ds) ≡ numbered (v * 10 + (d - 48)) ds
unfolding numbered
on v d ds e = rw e

off : (v d : ℕ) (ds : List ℕ) → is_digit d ≡ false → numbered v (d ∷ ds) ≡ None
unfolding numbered
off v d ds e = rw e

module _ (s : List ℕ) (i v : ℕ) (h : i < length s) where
  pub number-other : is_digit (get_or s i 0) ≡ false → numbered v (drop i s) ≡ None
  number-other e = rw (drop-cons s i 0 h) (off v (get_or s i 0) (drop (suc i) s) e)

  pub number-digit : is_digit (get_or s i 0) ≡ true → numbered v (drop i s) ≡ numbered (v * 10 + (get_or s i 0 - 48)) (drop (i + 1) s)
  number-digit e = rw (add-one i, drop-cons s i 0 h) (on v (get_or s i 0) (drop (suc i) s) e)

-- after at most nine digits a number is far below 64 bits, and after one digit more it is below ten times as much
pub few-below : (i v : ℕ) → i ≤ 9 → v < 10 ^ i → v < 10 ^ 9
few-below i v h l = let p : 10 ^ i ≤ 10 ^ 9 = pow-le-pow_right (omega arith) h in omega arith

pub few-more : (i v x : ℕ) → x ≤ 9 → v < 10 ^ i → v * 10 + x < 10 ^ (i + 1)
few-more i v x h l = rw (add-one i, pow-suc 10 i) (omega arith)

pub number-none : (s : List ℕ) → length s ≡ 0 → read_number s ≡ None
unfolding read_number
number-none [] h = refl
number-none (d ∷ ds) h = absurd (omega arith)

pub number-some : (s : List ℕ) → 0 < length s → read_number s ≡ numbered 0 s
unfolding read_number
number-some [] h = absurd (omega arith)
number-some (d ∷ ds) h = refl

-- digits whose value fits 64 bits are that number
pub number-is : (s : List ℕ) → 0 < length s → all_digits s ≡ true → value 0 s < 2 ^ 64 → read_number s ≡ Some (value 0 s)
unfolding numbered
number-is s h d l = number-some s h ∙ simp (d, lt-ltb (value 0 s) (2 ^ 64) l)

-- what is known of a text that is a number
pub record Read (s : List ℕ) (v : ℕ) : Type 0 where
  pub some : 0 < length s
  pub digits : all_digits s ≡ true
  pub worth : value 0 s ≡ v
  pub fits : v < 2 ^ 64

pub number_read : (s : List ℕ) (v : ℕ) → read_number s ≡ Some v → Read s v
unfolding read_number numbered
number_read [] v e = let z : ◌≡◌ {A = ℕ} 0 1 = cc in absurd (omega arith)
number_read (d ∷ ds) v e = go (all_digits (d ∷ ds)) refl (ltb (value 0 (d ∷ ds)) (2 ^ 64)) refl e
  where
    go : (t : Bool) → all_digits (d ∷ ds) ≡ t → (u : Bool) → ltb (value 0 (d ∷ ds)) (2 ^ 64) ≡ u → cond (t && u) (Some (value 0 (d ∷ ds))) None ≡ Some v → Read (d ∷ ds) v
    go false p u q e = let z : ◌≡◌ {A = ℕ} 0 1 = cc in absurd (omega arith)
    go true p false q e = let z : ◌≡◌ {A = ℕ} 0 1 = cc in absurd (omega arith)
    go true p true q e =
        let w : value 0 (d ∷ ds) ≡ v = cc in
        let f = ltb-true (value 0 (d ∷ ds)) (2 ^ 64) q in
        record { some = omega arith; digits = p; worth = w; fits = omega arith }

-- ---- the zeros that lead

zero-first : (x d : ℕ) (ds : List ℕ) → (x ≡ 48 → ⊥) → zeros (x ∷ d ∷ ds) ≡ 0
unfolding zeros
zero-first x d ds n = rw (ne_eqb x 48 n)

zero-next : (x d : ℕ) (ds : List ℕ) → x ≡ 48 → zeros (x ∷ d ∷ ds) ≡ suc (zeros (d ∷ ds))
unfolding zeros
zero-next x d ds e = rw (eq-eqb x 48 e)

zero-last : (l : List ℕ) → length l ≤ 1 → zeros l ≡ 0
unfolding zeros
zero-last [] h = refl
zero-last (x ∷ []) h = refl
zero-last (x ∷ d ∷ ds) h = absurd (omega arith)

module _ (s : List ℕ) (i : ℕ) where
  two : i + 1 < length s → drop i s ≡ get_or s i 0 ∷ get_or s (suc i) 0 ∷ drop (suc (suc i)) s
  two h =
      let k : suc i < length s = omega arith in
      drop-cons s i 0 (omega arith) ∙ ap (λ (l : List ℕ). get_or s i 0 ∷ l) (drop-cons s (suc i) 0 k)

  pub zeros-stop : i + 1 < length s → (get_or s i 0 ≡ 48 → ⊥) → zeros (drop i s) ≡ 0
  zeros-stop h n = ap zeros (two h) ∙ zero-first _ _ _ n

  pub zeros-on : i + 1 < length s → get_or s i 0 ≡ 48 → zeros (drop i s) ≡ suc (zeros (drop (i + 1) s))
  zeros-on h e =
      let k : suc i < length s = omega arith in
      ap zeros (two h) ∙ zero-next (get_or s i 0) (get_or s (suc i) 0) (drop (suc (suc i)) s) e
      ∙ ap (λ (l : List ℕ). suc (zeros l)) (sym (ap (λ (n : ℕ). drop n s) (add-one i) ∙ drop-cons s (suc i) 0 k))

  pub zeros-end : length s ≤ i + 1 → zeros (drop i s) ≡ 0
  zeros-end h = zero-last (drop i s) (let d = length-drop i s in omega arith)

-- at least one digit is left
pub zeros-lt : (l : List ℕ) → 0 < length l → zeros l < length l
unfolding zeros
zeros-lt [] h = h
zeros-lt (x ∷ []) h = omega arith
zeros-lt (x ∷ d ∷ ds) h = go (eqb x 48) (zeros-lt (d ∷ ds) (omega arith))
  where
    go : (t : Bool) → zeros (d ∷ ds) < suc (length ds) → cond t (suc (zeros (d ∷ ds))) 0 < suc (suc (length ds))
    go true h = omega arith
    go false h = omega arith

zero-front : (r : List ℕ) → numbered 0 (48 ∷ r) ≡ numbered 0 r
unfolding numbered
zero-front r = refl

strip-value : (ds : List ℕ) → numbered 0 (drop (zeros ds) ds) ≡ numbered 0 ds
unfolding zeros
strip-value [] = refl
strip-value (x ∷ []) = refl
strip-value (x ∷ d ∷ ds) = go (eqb x 48) refl (strip-value (d ∷ ds))
  where
    go : (b : Bool) → eqb x 48 ≡ b → numbered 0 (drop (zeros (d ∷ ds)) (d ∷ ds)) ≡ numbered 0 (d ∷ ds) → numbered 0 (drop (cond b (suc (zeros (d ∷ ds))) 0) (x ∷ d ∷ ds)) ≡ numbered 0 (x ∷ d ∷ ds)
    go true e ih = ih ∙ sym (ap (λ (n : ℕ). numbered 0 (n ∷ d ∷ ds)) (eqb-true x 48 e) ∙ zero-front (d ∷ ds))
    go false e ih = refl

-- without the zeros that lead: none leads, and the number is the same
pub strip-zeros : (ds : List ℕ) → zeros (drop (zeros ds) ds) ≡ 0
unfolding zeros
strip-zeros [] = refl
strip-zeros (x ∷ []) = refl
strip-zeros (x ∷ d ∷ ds) = go (eqb x 48) refl (strip-zeros (d ∷ ds))
  where
    go : (b : Bool) → eqb x 48 ≡ b → zeros (drop (zeros (d ∷ ds)) (d ∷ ds)) ≡ 0 → zeros (drop (cond b (suc (zeros (d ∷ ds))) 0) (x ∷ d ∷ ds)) ≡ 0
    go true e ih = ih
    go false e ih = rw e

pub strip-number : (ds : List ℕ) → 0 < length ds → read_number (drop (zeros ds) ds) ≡ read_number ds
strip-number ds h =
    number-some (drop (zeros ds) ds) (omega (arith, zeros-lt ds h, length-drop (zeros ds) ds)) ∙ strip-value ds ∙ sym (number-some ds h)
