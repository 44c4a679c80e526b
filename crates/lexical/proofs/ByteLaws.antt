-- The first byte of a text, and the code point of a character from its bytes. Assumes nothing.
use Prim.Native.Nat.{ℕ, suc, ◌+◌, ◌*◌, ◌%◌, ◌≤◌}
use mathlib.Core.Path.{◌≡◌, refl, sym, ◌∙◌}
use mathlib.Core.Bool.{Bool, true, false, cond}
use mathlib.Core.List.{List, [], ◌∷◌}
use native.Mathlib.Omega.{arith}
use borrow.Author.Tests.{eq-eqb, ne_eqb, eqb-true, eqb-false}
use lib.Dec.{eqb}
use lib.ListN.{length, get_or}
use Rattle.lines.specs.Lf.{prefixed}
use Rattle.lines.proofs.Tests.{and-true}
use Rattle.text.specs.Trim.{point}

eqb-sym : (a b : ℕ) → eqb a b ≡ eqb b a
eqb-sym a b = go (eqb b a) refl
  where
    go : (t : Bool) → eqb b a ≡ t → eqb a b ≡ t
    go true e = eq-eqb a b (sym (eqb-true b a e))
    go false e = ne_eqb a b (λ q. eqb-false b a e (sym q))

-- a text begins with b, which is not 0
pub first-is : (b : ℕ) (l : List ℕ) → (b ≡ 0 → ⊥) → prefixed (b ∷ []) l ≡ eqb (get_or l 0 0) b
unfolding prefixed
first-is b [] n = sym (ne_eqb 0 b (λ e. n (sym e)))
first-is b (y ∷ l) n = and-true (eqb b y) ∙ eqb-sym b y

-- the formula for a character of n bytes
unfoldable pub point_by : ℕ → List ℕ → ℕ
point_by n c =
    cond (eqb n 0) 0
    (cond (eqb n 1) (get_or c 0 0)
    (cond (eqb n 2) (get_or c 0 0 % 32 * 64 + get_or c 1 0 % 64)
    (cond (eqb n 3) (get_or c 0 0 % 16 * 4096 + get_or c 1 0 % 64 * 64 + get_or c 2 0 % 64)
    (get_or c 0 0 % 8 * 262144 + get_or c 1 0 % 64 * 4096 + get_or c 2 0 % 64 * 64 + get_or c 3 0 % 64))))

pub point-by : (c : List ℕ) → point_by (length c) c ≡ point c
unfolding point_by
point-by [] = refl
point-by (x ∷ []) = refl
point-by (x ∷ y ∷ []) = refl
point-by (x ∷ y ∷ z ∷ []) = refl
point-by (x ∷ y ∷ z ∷ w ∷ r) = simp (none 0 (omega arith), none 1 (omega arith), none 2 (omega arith), none 3 (omega arith))
  where
    none : (k : ℕ) → k ≤ 3 → eqb (suc (suc (suc (suc (length r))))) k ≡ false
    none k h = ne_eqb (suc (suc (suc (suc (length r))))) k (omega arith)

pub point-many : (c : List ℕ) → 4 ≤ length c → point_by 4 c ≡ point c
unfolding point_by
point-many c h = simp (ne_eqb (length c) 0 (omega arith), ne_eqb (length c) 1 (omega arith), ne_eqb (length c) 2 (omega arith), ne_eqb (length c) 3 (omega arith)) at (point-by c)
