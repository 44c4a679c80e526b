-- Recursion at a smaller size, for a rule that calls itself on parts of what it is given. Assumes nothing.
use Rattle.std.specs.Prelude.{ℕ, zero, suc}

module _ {A B : Type 0} (rule : (A → B) → A → B) (none : B) where
  -- the rule, with itself inside it, n deep
  unfoldable pub deep : ℕ → A → B
  deep zero a = none
  deep (suc n) a = rule (deep n) a

  -- the rule, with itself inside it, as deep as a's size: the whole of it, where the rule calls itself only at a smaller size
  unfoldable pub fix : (A → ℕ) → A → B
  fix size a = deep (suc (size a)) a
