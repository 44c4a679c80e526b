use mathlib.Core.Path.{◌≡◌, sym, ap}
use mathlib.Core.Bool.{true, false}
use mathlib.Core.Logic.{◌⊎◌, ⊎_elim, inl, inr}
use Prim.Native.Nat.{ℕ, ◌≤◌, ◌<◌}
use native.Mathlib.Omega.{arith}
use borrow.Author.Tests.{ne_eqb}
use Rattle.text.specs.White.{is_white}
use Rattle.lines.proofs.Tests.{or-true, is-in, is-out}
use Rattle.std.proofs.Common.{rules}
use Rattle.text.proofs.is_white.Goals as goal

-- the numbers that stand alone

abbrev Alone : ℕ → Type 0
Alone c = (c ≡ 32) ⊎ ((c ≡ 133) ⊎ ((c ≡ 160) ⊎ ((c ≡ 5760) ⊎ ((c ≡ 8239) ⊎ ((c ≡ 8287) ⊎ (c ≡ 12288))))))

alone : (c : ℕ) → Alone c → true ≡ is_white c
unfolding is_white
alone c k =
    ⊎_elim at (⊎_elim at (⊎_elim at (⊎_elim at (⊎_elim at (⊎_elim at at))))) k
  where
    at : {n : ℕ} → c ≡ n → is_white n ≡ is_white c
    at e = sym (ap is_white e)

none : (c : ℕ) → (9 ≤ c → 13 < c) → (8192 ≤ c → 8202 < c) → (8232 ≤ c → 8233 < c) → (Alone c → ⊥) → false ≡ is_white c
unfolding is_white
none c p q r n =
    simp (
      is-out 9 13 c p,
      is-out 8192 8202 c q,
      is-out 8232 8233 c r,
      ne_eqb c 32 (λ e. n (inl e)),
      ne_eqb c 133 (λ e. n (inr (inl e))),
      ne_eqb c 160 (λ e. n (inr (inr (inl e)))),
      ne_eqb c 5760 (λ e. n (inr (inr (inr (inl e))))),
      ne_eqb c 8239 (λ e. n (inr (inr (inr (inr (inl e)))))),
      ne_eqb c 8287 (λ e. n (inr (inr (inr (inr (inr (inl e))))))),
      ne_eqb c 12288 (λ e. n (inr (inr (inr (inr (inr (inr e))))))),
    )

pub returns-in_default : goal.returns-in_default
returns-in_default c = none _ (omega arith) (omega arith) (omega arith) (search rules)

pub returns-in_default-2 : goal.returns-in_default-2
returns-in_default-2 c = none _ (omega arith) (omega arith) (omega arith) (search rules)

pub returns-in_default-3 : goal.returns-in_default-3
returns-in_default-3 c = none _ (omega arith) (omega arith) (omega arith) (search rules)

pub returns-in_default-4 : goal.returns-in_default-4
returns-in_default-4 c = none _ (omega arith) (omega arith) (omega arith) (search rules)

pub returns-in-9-to-13 : goal.returns-in-9-to-13
returns-in-9-to-13 c = alone _ (search rules)

pub returns-in-9-to-13-2 : goal.returns-in-9-to-13-2
unfolding is_white
returns-in-9-to-13-2 c = simp (is-in 9 13 c.args.c (omega arith) (omega arith))

pub returns-in-9-to-13-3 : goal.returns-in-9-to-13-3
unfolding is_white
returns-in-9-to-13-3 c = simp (is-in 8192 8202 c.args.c (omega arith) (omega arith), or-true)

pub returns-in-9-to-13-4 : goal.returns-in-9-to-13-4
unfolding is_white
returns-in-9-to-13-4 c = simp (is-in 8232 8233 c.args.c (omega arith) (omega arith), or-true)
