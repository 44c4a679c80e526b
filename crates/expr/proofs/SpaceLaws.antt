-- Laws of tests at every byte and of white space, at a place of a text. Assumes nothing.
use Prim.Native.Nat.{ℕ, suc, ◌+◌, ◌-◌, ◌≤◌, ◌<◌}
use mathlib.Core.Path.{◌≡◌, refl, sym, ap, ◌∙◌}
use mathlib.Core.Bool.{Bool, true, false, cond, ◌&&◌, ◌||◌}
use mathlib.Core.List.{List, [], ◌∷◌, ◌++◌}
use native.Mathlib.Omega.{arith}
use native.Mathlib.Numerals.{add-one}
use borrow.Author.Tests.{eqb-true, eqb-false, ne_eqb, ltb-true, ltb-false}
use lib.Dec.{eqb, ltb}
use lib.ListN.{length, take, drop, get_or, length-drop, drop_of_length-le}
use lib.Seq.{drop-cons, take-suc}
use Rattle.lines.specs.Lf.{among, all}
use Rattle.lines.proofs.Tests.{or-false, is_below, is-above}
use Rattle.text.specs.White.{is_white}
use Rattle.expr.specs.Pure.{is_space, space_start, unless_blank, space_end}

-- ---- white space of ASCII is Unicode's, of the bytes below 128

pub space-high : (b : ℕ) → 127 < b → is_space b ≡ false
space-high b h = simp (is-above 9 13 b (omega arith), ne_eqb b 32 (omega arith))

pub space-low : (b : ℕ) → b ≤ 127 → is_space b ≡ is_white b
unfolding is_white
space-low b h =
    simp (ne_eqb b 133 (omega arith), ne_eqb b 160 (omega arith), ne_eqb b 5760 (omega arith), is_below 8192 8202 b (omega arith), is_below 8232 8233 b (omega arith), ne_eqb b 8239 (omega arith), ne_eqb b 8287 (omega arith), ne_eqb b 12288 (omega arith), or-false)

pub space-white : (b : ℕ) → is_space b ≡ ltb b 128 && is_white b
space-white b = go (ltb b 128) refl
  where
    go : (t : Bool) → ltb b 128 ≡ t → is_space b ≡ t && is_white b
    go true e = let h = ltb-true b 128 e in space-low b (omega arith)
    go false e = let h = ltb-false b 128 e in space-high b (omega arith)

-- ---- a test at every byte

module _ (f : ℕ → Bool) (s : List ℕ) (i : ℕ) where
  pub all-stop : i < length s → f (get_or s i 0) ≡ false → all f (drop i s) ≡ false
  all-stop p h = rw (drop-cons s i 0, h)

  pub all_more : i < length s → f (get_or s i 0) ≡ true → all f (drop i s) ≡ all f (drop (i + 1) s)
  all_more p h = rw (drop-cons s i 0, h, add-one)

  pub all_end : length s ≤ i → all f (drop i s) ≡ true
  all_end p = rw (drop_of_length-le s p)

-- ---- the front

module _ (s : List ℕ) (i : ℕ) where
  pub start-stop : i < length s → is_space (get_or s i 0) ≡ false → space_start (drop i s) ≡ drop i s
  unfolding space_start
  start-stop p h = rw (drop-cons s i 0, h)

  pub start-more : i < length s → is_space (get_or s i 0) ≡ true → space_start (drop i s) ≡ space_start (drop (i + 1) s)
  unfolding space_start
  start-more p h = rw (drop-cons s i 0, h, add-one)

  pub start-end : length s ≤ i → space_start (drop i s) ≡ drop i s
  unfolding space_start
  start-end p = rw (drop_of_length-le s p)

-- a text is white space alone where nothing is left of it
blank-start : (s : List ℕ) → length (space_start s) ≡ 0 → all is_space s ≡ true
unfolding space_start
blank-start [] h = refl
blank-start (a ∷ s) h = go (is_space a) h (blank-start s)
  where
    go : (t : Bool) → length (cond t (space_start s) (a ∷ s)) ≡ 0 → (length (space_start s) ≡ 0 → all is_space s ≡ true) → (t && all is_space s) ≡ true
    go true h f = f h
    go false h f = absurd (omega arith)

full_start : (s : List ℕ) → (length (space_start s) ≡ 0 → ⊥) → all is_space s ≡ false
unfolding space_start
full_start [] h = absurd (h refl)
full_start (a ∷ s) h = go (is_space a) h (full_start s)
  where
    go : (t : Bool) → (length (cond t (space_start s) (a ∷ s)) ≡ 0 → ⊥) → ((length (space_start s) ≡ 0 → ⊥) → all is_space s ≡ false) → (t && all is_space s) ≡ false
    go true h f = f h
    go false h f = refl

pub blank-by : (s : List ℕ) (r : ℕ) → r ≤ length s → drop r s ≡ space_start s → eqb r (length s) ≡ all is_space s
blank-by s r p e = go (eqb r (length s)) refl
  where
    go : (t : Bool) → eqb r (length s) ≡ t → t ≡ all is_space s
    go true h = let q = eqb-true r (length s) h in sym (blank-start s (omega (arith, ap length e, length-drop r s)))
    go false h = let q = eqb-false r (length s) h in sym (full_start s (λ z. q (omega (arith, ap length e, length-drop r s))))

-- ---- the end

keeps : (x : ℕ) (l : List ℕ) (a : ℕ) → unless_blank x (l ++ (a ∷ [])) ≡ x ∷ (l ++ (a ∷ []))
keeps x [] a = refl
keeps x (y ∷ l) a = refl

last : (l : List ℕ) (a : ℕ) (b : Bool) → is_space a ≡ b → space_end (l ++ (a ∷ [])) ≡ cond b (space_end l) (l ++ (a ∷ []))
unfolding space_end
last [] a b h = rw h
last (x ∷ l) a true h = rw (last l a true h)
last (x ∷ l) a false h = rw (last l a false h) (keeps x l a)

module _ (s : List ℕ) (n : ℕ) where
  before : 0 < n → n ≤ length s → take n s ≡ take (n - 1) s ++ (get_or s (n - 1) 0 ∷ [])
  before p q =
      let e : n ≡ suc (n - 1) = omega arith in
      let l : n - 1 < length s = omega arith in
      ap (λ (k : ℕ). take k s) e ∙ take-suc s (n - 1) 0 l

  pub end-stop : 0 < n → n ≤ length s → is_space (get_or s (n - 1) 0) ≡ false → space_end (take n s) ≡ take n s
  end-stop p q h = rw (before p q) (last (take (n - 1) s) (get_or s (n - 1) 0) false h)

  pub end_more : 0 < n → n ≤ length s → is_space (get_or s (n - 1) 0) ≡ true → space_end (take n s) ≡ space_end (take (n - 1) s)
  end_more p q h = rw (before p q) (last (take (n - 1) s) (get_or s (n - 1) 0) true h)

  pub end-end : n ≤ 0 → space_end (take n s) ≡ take n s
  unfolding space_end
  end-end p = let e : n ≡ 0 = omega arith in rw e

-- what is trimmed at the end stands after what is left
pub end_rest : (s : List ℕ) → (y : List ℕ) × (s ≡ space_end s ++ y)
unfolding space_end
end_rest [] = ([], refl)
end_rest (a ∷ s) = go (is_space a) refl (space_end s) (end_rest s)
  where
    go : (b : Bool) → is_space a ≡ b → (l : List ℕ) → ((y : List ℕ) × (s ≡ l ++ y)) → (y : List ℕ) × (a ∷ s ≡ unless_blank a l ++ y)
    go true h [] r = (a ∷ s, rw h)
    go false h [] r = (s, rw h)
    go b h (x ∷ l) r = (r.0, ap (λ (t : List ℕ). a ∷ t) r.1)

-- ---- one of a few bytes

pub three : (x y z b : ℕ) → among (x ∷ y ∷ z ∷ []) b ≡ (eqb b x || (eqb b y || eqb b z))
three x y z b = ap (λ (t : Bool). eqb b x || (eqb b y || t)) (or-false (eqb b z))
