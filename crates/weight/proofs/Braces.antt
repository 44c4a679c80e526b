-- The weight and the number of `{`: a text that is no heavier, whatever a `{` weighs, has no more of them. Assumes nothing.
use Prim.Native.Nat.{ℕ, suc, ◌+◌, ◌*◌, ◌≤◌}
use mathlib.Core.Path.{◌≡◌, refl}
use mathlib.Core.Bool.{Bool, true, false, cond}
use mathlib.Core.List.{List, [], ◌∷◌}
use native.Mathlib.Omega.{arith}
use native.Mathlib.Nat.{mul-le-mul_left}
use borrow.Author.Tests.{leb-true, leb-false}
use lib.Dec.{eqb, leb}
use Rattle.lines.specs.Lf.{count_of}
use Rattle.weight.specs.Inner.Weight.{spaced, extra, weight}

-- each `{` weighs h more
pub weight-braces : (h : ℕ) (s : List ℕ) → weight h s ≡ weight 0 s + h * count_of 123 s
unfolding weight count_of
weight-braces h [] = omega arith
weight-braces h (x ∷ xs) = go (eqb x 123) (weight-braces h xs)
  where
    go : (b : Bool) → weight h xs ≡ weight 0 xs + h * count_of 123 xs → suc (extra (eqb x 44) (spaced xs) + (cond b h 0 + weight h xs)) ≡
        suc (extra (eqb x 44) (spaced xs) + (cond b 0 0 + weight 0 xs)) + h * cond b (suc (count_of 123 xs)) (count_of 123 xs)
    go true r = omega arith
    go false r = omega arith

-- a text that is no heavier than another but for k, whatever a `{` weighs, has no more of them
pub braces-le : (a b : List ℕ) (k : ℕ) → ((h : ℕ) → weight h a ≤ weight h b + k) → count_of 123 a ≤ count_of 123 b
braces-le a b k f = go (leb (count_of 123 a) (count_of 123 b)) refl
  where
    go : (t : Bool) → leb (count_of 123 a) (count_of 123 b) ≡ t → count_of 123 a ≤ count_of 123 b
    go true e = leb-true (count_of 123 a) (count_of 123 b) e
    go false e =
        let h : ℕ = suc (weight 0 b + k) in
        let n = leb-false (count_of 123 a) (count_of 123 b) e in
        let m : h * suc (count_of 123 b) ≤ h * count_of 123 a = mul-le-mul_left h (omega arith) in
        absurd (omega (arith, f h, weight-braces h a, weight-braces h b))
