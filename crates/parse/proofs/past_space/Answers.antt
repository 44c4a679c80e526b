use Prim.Native.Nat.{◌+◌}
use native.Mathlib.Omega.{arith}
use mathlib.Core.Bool.{Bool, cond}
use mathlib.Core.Path.{sym, ap}
use lib.ListN.{get_or}
use borrow.Author.Tests.{eq-eqb, ne_eqb}
use Rattle.parse.proofs.Shut.{not_last}
use Rattle.parse.proofs.past_space.Goals as goal

pub overflow_add-result : goal.overflow_add-result
overflow_add-result c = omega (arith, c.requires.0)

pub returns-then-t-i-eq32 : goal.returns-then-t-i-eq32
returns-then-t-i-eq32 c = let f = c.before.before in let t = f.args.t.now in let i = f.args.i in (sym (ap (λ (b : Bool). cond b (i + 1) i) (eq-eqb (get_or t i 0) 32 c.if-t-i-eq32.true)), not_last t f.requires.1 i f.requires.0 (λ z. absurd (omega (arith, c.if-t-i-eq32.true))))

pub returns : goal.returns
returns c = let f = c.before.before in let t = f.args.t.now in let i = f.args.i in (sym (ap (λ (b : Bool). cond b (i + 1) i) (ne_eqb (get_or t i 0) 32 c.if-t-i-eq32.false)), f.requires.0)
