-- `fix rule` is the rule with itself inside it, where the rule calls itself only at a smaller size. Assumes nothing.
use mathlib.Core.Path.{◌≡◌}
use Prim.Native.Nat.{ℕ, zero, suc, ◌<◌}
use native.Mathlib.Omega.{arith}
use Rattle.expr.specs.Fix.{deep, fix}

module _ {A B : Type 0} (rule : (A → B) → A → B) (none : B) (size : A → ℕ)
    (smaller : (f g : A → B) (a : A) → ((b : A) → size b < size a → f b ≡ g b) → rule f a ≡ rule g a) where
  -- any depth above the size gives the same
  enough : (m n : ℕ) (a : A) → size a < m → size a < n → deep rule none m a ≡ deep rule none n a
  unfolding deep
  enough zero n a p q = absurd (omega arith)
  enough (suc m) zero a p q = absurd (omega arith)
  enough (suc m) (suc n) a p q = smaller (deep rule none m) (deep rule none n) a (λ b h. enough m n b (omega arith) (omega arith))

  -- the rule, with itself inside it
  pub fix-rule : (a : A) → fix rule none size a ≡ rule (fix rule none size) a
  unfolding fix deep
  fix-rule a = smaller (deep rule none (size a)) (fix rule none size) a (λ b h. enough (size a) (suc (size b)) b h (omega arith))
