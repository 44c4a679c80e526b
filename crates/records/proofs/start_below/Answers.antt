use Prim.Native.Nat.{◌+◌, ◌≤◌, ◌^◌}
use mathlib.Core.Path.{subst}
use mathlib.Core.Bool.{Bool, cond}
use native.Mathlib.Omega.{arith}
use borrow.Author.Tests.{eq-eqb, ne_eqb}
use Rattle.records.proofs.start_below.Goals as goal

pub returns-then-k-eq0 : goal.returns-then-k-eq0
returns-then-k-eq0 c = rw (eq-eqb c.args.k 0 c.if-k-eq0.true)

pub overflow_add-result : goal.overflow_add-result
overflow_add-result c = let a = c.args in omega (arith, subst (λ (b : Bool). cond b 0 (a.above.end + 1) ≤ 2 ^ 63) (ne_eqb a.k 0 c.if-k-eq0.false) c.requires)

pub returns : goal.returns
returns c = rw (ne_eqb c.args.k 0 c.if-k-eq0.false)
