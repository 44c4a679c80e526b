use mathlib.Core.Path.{sym, ap}
use mathlib.Core.Bool.{Bool, cond}
use Prim.Native.Nat.{◌%◌}
use borrow.Author.Tests.{eq-eqb, ne_eqb}
use Rattle.calls.proofs.later.head_at.Goals as goal

pub returns-then-x-eq1 : goal.returns-then-x-eq1
returns-then-x-eq1 c = let a = c.args in sym (ap (λ (b : Bool). cond b a.c a.h) (eq-eqb (a.x % 2) 1 c.if-x-eq1.true))

pub returns : goal.returns
returns c = let a = c.args in sym (ap (λ (b : Bool). cond b a.c a.h) (ne_eqb (a.x % 2) 1 c.if-x-eq1.false))
