-- The lines of a raw text, found in the text itself. Assumes nothing.
use Prim.Native.Nat.{ℕ, zero, suc, ◌-◌, ◌<◌}
use mathlib.Core.Path.{◌≡◌, refl, sym, ap, ◌∙◌}
use mathlib.Core.Bool.{Bool, true, false, cond, ◌&&◌, ◌||◌}
use mathlib.Core.List.{List, [], ◌∷◌}
use native.Mathlib.Omega.{arith}
use borrow.Author.Tests.{eq-eqb, eqb-true, lt-ltb, le-ltb, ltb-true, ltb-false}
use lib.Dec.{eqb, ltb}
use lib.ListN.{length, take, drop, get_or}
use Rattle.lines.specs.Lf.{up_to, prefixed, cut_on, lines_of}
use Rattle.lines.specs.Steps.{drop_cr, split_lines}
use Rattle.lines.proofs.Tests.{no, and_left, and_right, and-false, and-true}
use Rattle.lines.proofs.StepLaws.{drop-case}
use Rattle.origins.specs.Inner.Written.{bare_len, bare_by}

-- the first line, and the lines behind its LF
abbrev pub Cut : List ℕ → Type 0
Cut s = lines_of (drop_cr s) ≡ take (bare_len s) s ∷ lines_of (drop_cr (drop (suc (up_to 10 s)) s))

cut-lf : (xs : List ℕ) → Cut (10 ∷ xs)
unfolding bare_len up_to lines_of cut_on
cut-lf xs = ap lines_of (drop-case 10 xs false refl)

-- a byte that neither ends a line nor goes
module _ (x : ℕ) (a : eqb x 10 ≡ false) where
  cut-last : (eqb x 13 && prefixed (10 ∷ []) []) ≡ false → Cut (x ∷ [])
  unfolding bare_len up_to lines_of cut_on drop_cr
  cut-last b = ap lines_of (drop-case x [] false b) ∙ rw (a, b)

  cut-more : (y : ℕ) (ys : List ℕ) → (eqb x 13 && prefixed (10 ∷ []) (y ∷ ys)) ≡ false → Cut (y ∷ ys) → Cut (x ∷ y ∷ ys)
  unfolding bare_len up_to lines_of cut_on
  cut-more y ys b h =
      ap lines_of (drop-case x (y ∷ ys) false b)
      ∙ ap (λ (t : Bool). cut_on t x (lines_of (drop_cr (y ∷ ys)))) a
      ∙ ap (cut_on false x) h
      ∙ rw (a, b)

-- a CR before an LF
cut-cr : (ys : List ℕ) → Cut (13 ∷ 10 ∷ ys)
unfolding bare_len up_to lines_of cut_on prefixed
cut-cr ys = ap lines_of (drop-case 13 (10 ∷ ys) true refl ∙ drop-case 10 ys false refl)

cut_by : (x y : ℕ) (ys : List ℕ) → (eqb x 13 && prefixed (10 ∷ []) (y ∷ ys)) ≡ true → Cut (x ∷ y ∷ ys)
unfolding prefixed
cut_by x y ys h =
    let p : x ≡ 13 = eqb-true x 13 (and_left (eqb x 13) (eqb 10 y && true) h) in
    let q : y ≡ 10 = sym (eqb-true 10 y (and_left (eqb 10 y) true (and_right (eqb x 13) (eqb 10 y && true) h))) in
    rw (p, q) (cut-cr ys)

pub cut-first : (x : ℕ) (xs : List ℕ) → Cut (x ∷ xs)
unfolding prefixed
cut-first x [] = go (eqb x 10) refl
  where
    go : (t : Bool) → eqb x 10 ≡ t → Cut (x ∷ [])
    go true e = rw (eqb-true x 10 e) (cut-lf [])
    go false e = cut-last x e (and-false (eqb x 13))
cut-first x (y ∷ ys) = by (eqb x 10) refl (eqb x 13 && prefixed (10 ∷ []) (y ∷ ys)) refl (cut-first y ys)
  where
    by : (t : Bool) → eqb x 10 ≡ t → (u : Bool) → (eqb x 13 && prefixed (10 ∷ []) (y ∷ ys)) ≡ u → Cut (y ∷ ys) → Cut (x ∷ y ∷ ys)
    by true e u f h = rw (eqb-true x 10 e) (cut-lf (y ∷ ys))
    by false e true f h = cut_by x y ys f
    by false e false f h = cut-more x e y ys f h

-- the first line of a raw text that is not empty, and the rest
pub split-first : (s : List ℕ) → 0 < length s → split_lines s ≡ take (bare_len s) s ∷ split_lines (drop (suc (up_to 10 s)) s)
unfolding split_lines
split-first [] h = absurd (omega arith)
split-first (x ∷ xs) h = cut-first x xs

less_both : (a b : ℕ) → ltb (suc a) (suc b) ≡ ltb a b
less_both a b = go (ltb a b) refl
  where
    go : (t : Bool) → ltb a b ≡ t → ltb (suc a) (suc b) ≡ ltb a b
    go true e = lt-ltb (suc a) (suc b) (omega (arith, ltb-true a b e)) ∙ sym e
    go false e = le-ltb (suc a) (suc b) (omega (arith, ltb-false a b e)) ∙ sym e

bare-down : (x : ℕ) (xs : List ℕ) (m : ℕ) → bare_by (x ∷ xs) (suc (suc m)) ≡ suc (bare_by xs (suc m))
unfolding bare_by
bare-down x xs m =
    let p : suc (suc m) - 1 ≡ suc m = omega arith in
    let q : suc m - 1 ≡ m = omega arith in
    rw (p, q, lt-ltb 0 (suc (suc m)) (omega arith), lt-ltb 0 (suc m) (omega arith), less_both (suc m) (length xs)) (go (ltb (suc m) (length xs) && eqb (get_or xs m 0) 13))
  where
    go : (t : Bool) → cond t (suc m) (suc (suc m)) ≡ suc (cond t m (suc m))
    go true = refl
    go false = refl

bare-none : (s : List ℕ) → bare_by s 0 ≡ 0
unfolding bare_by
bare-none s = refl

-- a byte whose line ends just behind it
bare-one : (x : ℕ) (xs : List ℕ) → (ltb 1 (suc (length xs)) && eqb x 13) ≡ false → bare_by (x ∷ xs) 1 ≡ 1
unfolding bare_by
bare-one x xs h = rw h

bare-cr : (ys : List ℕ) → bare_by (13 ∷ 10 ∷ ys) 1 ≡ 0
unfolding bare_by
bare-cr ys = rw (lt-ltb 1 (suc (suc (length ys))) (omega arith))

cr-here : (x : ℕ) (xs : List ℕ) → (eqb x 13 && prefixed (10 ∷ []) xs) ≡ true → 0 ≡ bare_by (x ∷ xs) (suc (up_to 10 xs))
unfolding prefixed up_to
cr-here x [] h = no (sym (and-false (eqb x 13)) ∙ h)
cr-here x (y ∷ ys) h =
    let p : x ≡ 13 = eqb-true x 13 (and_left (eqb x 13) (eqb 10 y && true) h) in
    let q : y ≡ 10 = sym (eqb-true 10 y (and_left (eqb 10 y) true (and_right (eqb x 13) (eqb 10 y && true) h))) in
    rw (p, q) (sym (bare-cr ys))

no-cr : (x : ℕ) (xs : List ℕ) → (eqb x 13 && prefixed (10 ∷ []) xs) ≡ false → up_to 10 xs ≡ 0 → (ltb 1 (suc (length xs)) && eqb x 13) ≡ false
unfolding prefixed up_to
no-cr x [] h q = refl
no-cr x (y ∷ ys) h q = go (eqb y 10) refl q
  where
    go : (t : Bool) → eqb y 10 ≡ t → cond t 0 (suc (up_to 10 ys)) ≡ 0 → (ltb 1 (suc (suc (length ys))) && eqb x 13) ≡ false
    go true e z =
        let w : eqb 10 y ≡ true = eq-eqb 10 y (sym (eqb-true y 10 e)) in
        let v : eqb x 13 ≡ false = sym (and-true (eqb x 13)) ∙ ap (λ (b : Bool). eqb x 13 && (b && true)) (sym w) ∙ h in
        rw (v, lt-ltb 1 (suc (suc (length ys))) (omega arith))
    go false e z = absurd (omega arith)

pub bare-is : (s : List ℕ) → bare_len s ≡ bare_by s (up_to 10 s)
unfolding bare_len up_to
bare-is [] = sym (bare-none [])
bare-is (x ∷ xs) = by (eqb x 10) refl (eqb x 13 && prefixed (10 ∷ []) xs) refl (up_to 10 xs) refl (bare-is xs)
  where
    by : (t : Bool) → eqb x 10 ≡ t → (u : Bool) → (eqb x 13 && prefixed (10 ∷ []) xs) ≡ u → (m : ℕ) → up_to 10 xs ≡ m → bare_len xs ≡ bare_by xs (up_to 10 xs) →
        cond (t || u) 0 (suc (bare_len xs)) ≡ bare_by (x ∷ xs) (cond t 0 (suc (up_to 10 xs)))
    by true e u f m g h = sym (bare-none (x ∷ xs))
    by false e true f m g h = cr-here x xs f
    by false e false f zero g h = ap suc (h ∙ ap (bare_by xs) g ∙ bare-none xs) ∙ sym (ap (λ (n : ℕ). bare_by (x ∷ xs) (suc n)) g ∙ bare-one x xs (no-cr x xs f g))
    by false e false f (suc m) g h = ap suc (h ∙ ap (bare_by xs) g) ∙ sym (bare-down x xs m) ∙ sym (ap (λ (n : ℕ). bare_by (x ∷ xs) (suc n)) g)
