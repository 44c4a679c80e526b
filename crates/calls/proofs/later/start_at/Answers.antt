use mathlib.Core.Path.{sym, ap}
use mathlib.Core.Bool.{Bool, cond}
use Prim.Native.Nat.{◌+◌, ◌-◌, ◌/◌}
use lib.ListN.{get_or}
use borrow.Author.Tests.{eq-eqb, ne_eqb}
use native.Mathlib.Omega.{arith}
use Rattle.calls.proofs.later.start_at.Goals as goal

pub returns-then-k-eq0 : goal.returns-then-k-eq0
returns-then-k-eq0 c = let a = c.args in sym (ap (λ (b : Bool). cond b 0 (get_or a.ends.now (a.k - 1) 0 / 2 + 1)) (eq-eqb a.k 0 c.if-k-eq0.true))

pub overflow_add-result : goal.overflow_add-result
overflow_add-result c = let z = c.shared_slice_known-1.given (c.args.k - 1) in omega (arith, z)

pub returns : goal.returns
returns c = let a = c.args in sym (ap (λ (b : Bool). cond b 0 (get_or a.ends.now (a.k - 1) 0 / 2 + 1)) (ne_eqb a.k 0 c.if-k-eq0.false))
