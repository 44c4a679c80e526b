-- Laws of the tests that two texts are equal, and that one stands in front of another. Assumes nothing.
use Prim.Native.Nat.{ℕ}
use mathlib.Core.Path.{◌≡◌, refl, sym, ap, ◌∙◌}
use mathlib.Core.Bool.{Bool, true, false, ◌&&◌}
use mathlib.Core.List.{List, [], ◌∷◌, ◌++◌}
use borrow.Author.Tests.{eq-eqb, eqb-true}
use lib.Dec.{eqb}
use lib.ListN.{length, drop}
use Rattle.lines.specs.Lf.{same, prefixed}
use Rattle.lines.proofs.Tests.{no, and_left, and_right, and_both}
use Rattle.lines.proofs.Compare.{same-eq}

-- ---- texts that differ

pub same_not : (p l : List ℕ) → (p ≡ l → ⊥) → same p l ≡ false
same_not p l n = go (same p l) refl
  where
    go : (t : Bool) → same p l ≡ t → same p l ≡ false
    go true e = absurd (n (same-eq p l e))
    go false e = e

-- ---- a text in front of another

pub front-append : (p l : List ℕ) → prefixed p (p ++ l) ≡ true
unfolding prefixed
front-append [] l = refl
front-append (x ∷ p) l = and_both (eq-eqb x x refl) (front-append p l)

pub front_of : (p l : List ℕ) → prefixed p l ≡ true → l ≡ p ++ drop (length p) l
unfolding prefixed
front_of [] l h = refl
front_of (x ∷ p) [] h = no h
front_of (x ∷ p) (y ∷ l) h =
    let e : x ≡ y = eqb-true x y (and_left (eqb x y) (prefixed p l) h) in
    let r : l ≡ p ++ drop (length p) l = front_of p l (and_right (eqb x y) (prefixed p l) h) in
    ap (λ (n : ℕ). n ∷ l) (sym e) ∙ ap (λ (m : List ℕ). x ∷ m) r

-- whether a text is p and then t: it has p in front, and what follows is t
pub same-front : (p s t : List ℕ) → same s (p ++ t) ≡ prefixed p s && same (drop (length p) s) t
unfolding same prefixed
same-front [] s t = refl
same-front (x ∷ p) [] t = refl
same-front (x ∷ p) (y ∷ s) t = go (eqb y x) refl (eqb x y) refl (same-front p s t)
  where
    go : (a : Bool) → eqb y x ≡ a → (b : Bool) → eqb x y ≡ b → same s (p ++ t) ≡ prefixed p s && same (drop (length p) s) t → a && same s (p ++ t) ≡ (b && prefixed p s) && same (drop (length p) s) t
    go true d true e ih = ih
    go true d false e ih = no (sym e ∙ eq-eqb x y (sym (eqb-true y x d)))
    go false d true e ih = no (sym d ∙ eq-eqb y x (sym (eqb-true x y e)))
    go false d false e ih = refl
