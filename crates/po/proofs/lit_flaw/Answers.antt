use Prim.Native.Nat.{ℕ}
use native.Mathlib.Omega.{arith}
use native.Mathlib.Numerals.{add-one}
use mathlib.Core.Path.{refl, sym, ap, ◌∙◌}
use Rattle.po.specs.Found.{odds}
use Rattle.po.specs.Answers.{odd_flaw, flaw_in}
use Rattle.po.proofs.lit_flaw.Goals as goal

pub first_odd-requires : goal.first_odd-requires
first_odd-requires c = omega (arith, c.requires)

pub returns-then-is_closed : goal.returns-then-is_closed
unfolding flaw_in
returns-then-is_closed c = let a = c.args in rw (sym c.is_closed.ensures ∙ c.if-is_closed.true) (c.first_odd.ensures ∙ ap (λ (n : ℕ). odd_flaw (odds a.s.now a.q n)) (add-one a.place))

pub returns : goal.returns
unfolding flaw_in
returns c = rw (sym c.is_closed.ensures ∙ c.if-is_closed.false) refl
