-- Laws of the weight. Assumes nothing.
use Prim.Native.Nat.{ℕ, zero, suc, ◌+◌, ◌-◌, ◌*◌, ◌≤◌, ◌<◌}
use mathlib.Core.Path.{◌≡◌, refl, ap}
use mathlib.Core.Bool.{Bool, true, false, cond}
use mathlib.Core.List.{List, [], ◌∷◌, ◌++◌}
use native.Mathlib.Omega.{arith}
use lib.ListN.{length, take, drop, get_or, take-append-drop}
use lib.Dec.{eqb}
use Rattle.lines.specs.Lf.{part, unlines}
use Rattle.weight.specs.Inner.Weight.{spaced, extra, weight}

pub extra-le : (c s : Bool) → extra c s ≤ 1
unfolding extra
extra-le false s = omega arith
extra-le true true = omega arith
extra-le true false = omega arith

-- a space that follows only takes away
extra-none : (c s : Bool) → extra c s ≤ extra c false
unfolding extra
extra-none false s = omega arith
extra-none true true = omega arith
extra-none true false = omega arith

pub spaced-drop : (n : ℕ) (l : List ℕ) → spaced (drop n l) ≡ eqb (get_or l n 0) 32
unfolding spaced
spaced-drop zero [] = refl
spaced-drop (suc n) [] = refl
spaced-drop zero (x ∷ xs) = refl
spaced-drop (suc n) (x ∷ xs) = spaced-drop n xs

zero-heavy : (b : Bool) → ◌≡◌ {A = ℕ} (cond b 0 0) 0
zero-heavy true = refl
zero-heavy false = refl

-- where a `{` weighs no more than another byte
pub weight-twice : (l : List ℕ) → weight 0 l ≤ 2 * length l
unfolding weight
weight-twice [] = omega arith
weight-twice (x ∷ xs) = let r = weight-twice xs in let e = extra-le (eqb x 44) (spaced xs) in let z = zero-heavy (eqb x 123) in omega arith

-- ---- laws for every weight of `{`: H is what each weighs more than another byte

module _ (H : ℕ) where
  pub length-weight : (l : List ℕ) → length l ≤ weight H l
  unfolding weight
  length-weight [] = omega arith
  length-weight (x ∷ xs) = let r = length-weight xs in omega arith

  -- joined, texts weigh no more than apart
  pub weight-append : (a b : List ℕ) → weight H (a ++ b) ≤ weight H a + weight H b
  unfolding weight spaced
  weight-append [] b = omega arith
  weight-append (x ∷ []) b = let e = extra-none (eqb x 44) (spaced b) in omega arith
  weight-append (x ∷ y ∷ a) b = let r = weight-append (y ∷ a) b in omega arith

  -- and as much, where the second does not begin with a space
  pub weight-cut : (a b : List ℕ) → spaced b ≡ false → weight H (a ++ b) ≡ weight H a + weight H b
  unfolding weight spaced
  weight-cut [] b h = omega arith
  weight-cut (x ∷ []) b h = let e : extra (eqb x 44) (spaced b) ≡ extra (eqb x 44) false = ap (extra (eqb x 44)) h in omega arith
  weight-cut (x ∷ y ∷ a) b h = let r = weight-cut (y ∷ a) b h in omega arith

  -- a part weighs no more
  pub weight-left : (a b : List ℕ) → weight H a ≤ weight H (a ++ b)
  unfolding weight spaced
  weight-left [] b = omega arith
  weight-left (x ∷ []) [] = omega arith
  weight-left (x ∷ []) (y ∷ ys) = let e = extra-le (eqb x 44) false in omega arith
  weight-left (x ∷ y ∷ a) b = let r = weight-left (y ∷ a) b in omega arith

  pub weight-right : (a b : List ℕ) → length a + weight H b ≤ weight H (a ++ b)
  unfolding weight
  weight-right [] b = omega arith
  weight-right (x ∷ a) b = let r = weight-right a b in omega arith

  pub weight-take : (n : ℕ) (l : List ℕ) → weight H (take n l) ≤ weight H l
  weight-take n l = let r = weight-left (take n l) (drop n l) in rw take-append-drop at r

  pub weight-drop : (n : ℕ) (l : List ℕ) → n ≤ length l → n + weight H (drop n l) ≤ weight H l
  unfolding weight
  weight-drop zero l h = omega arith
  weight-drop (suc n) [] h = absurd (omega arith)
  weight-drop (suc n) (x ∷ xs) h = let r = weight-drop n xs (omega arith) in omega arith

  pub weight-rest : (n : ℕ) (l : List ℕ) → weight H (drop n l) ≤ weight H l
  unfolding weight
  weight-rest zero l = omega arith
  weight-rest (suc n) [] = omega arith
  weight-rest (suc n) (x ∷ xs) = let r = weight-rest n xs in omega arith

  pub weight-part : (a b : ℕ) (l : List ℕ) → a ≤ length l → a + weight H (part a b l) ≤ weight H l
  weight-part a b l h = let r = weight-take (b - a) (drop a l) in let s = weight-drop a l h in omega arith

  -- ---- lines

  pub weight-line : (l : List ℕ) (ls : List (List ℕ)) → weight H (unlines (l ∷ ls)) ≡ weight H l + 1 + weight H (unlines ls)
  unfolding unlines weight spaced extra
  weight-line l ls = let r : weight H (l ++ 10 ∷ unlines ls) ≡ weight H l + weight H (10 ∷ unlines ls) = weight-cut l (10 ∷ unlines ls) refl in omega arith

  pub weight-lines : (xs ys : List (List ℕ)) → weight H (unlines (xs ++ ys)) ≡ weight H (unlines xs) + weight H (unlines ys)
  unfolding unlines weight
  weight-lines [] ys = omega arith
  weight-lines (x ∷ xs) ys = let a = weight-line x (xs ++ ys) in let b = weight-line x xs in let c = weight-lines xs ys in omega arith

  -- ---- one part put for another

  -- a name that begins with no space, and any text v in its place
  pub weight-swap : (a name v b : List ℕ) → spaced name ≡ false → 0 < length name → weight H (a ++ (v ++ b)) + length name ≤ weight H (a ++ (name ++ b)) + weight H v
  unfolding spaced
  weight-swap a name v b h p =
      let r = weight-append a (v ++ b) in
      let s = weight-append v b in
      let t : weight H (a ++ (name ++ b)) ≡ weight H a + weight H (name ++ b) = weight-cut a (name ++ b) (first name h p) in
      let u = weight-right name b in
      omega arith
    where
      first : (n : List ℕ) → spaced n ≡ false → 0 < length n → spaced (n ++ b) ≡ false
      first [] h p = absurd (omega arith)
      first (x ∷ n) h p = h

  -- no lines weigh nothing
  pub nothing : weight H (unlines []) ≡ 0
  unfolding weight unlines
  nothing = refl
