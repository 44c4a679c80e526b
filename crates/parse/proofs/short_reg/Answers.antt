use Prim.Native.Nat.{◌+◌}
use mathlib.Core.Path.{sym, ap, ◌∙◌}
use mathlib.Core.Bool.{Bool, true, false, ◌||◌}
use native.Mathlib.Omega.{arith}
use lib.Dec.{eqb}
use lib.ListN.{length, get_or}
use borrow.Author.Tests.{lt-leb, eq-eqb, ne_eqb}
use Rattle.parse.proofs.Plain.{short-is}
use Rattle.parse.proofs.short_reg.Goals as goal

pub returns-then-n-lt2 : goal.returns-then-n-lt2
returns-then-n-lt2 c = let a = c.args in rw (lt-leb (a.a + 2) (length a.s.now) (omega arith))

pub returns-then-n-a : goal.returns-then-n-a
returns-then-n-a c = let a = c.args in rw (lt-leb (a.a + 2) (length a.s.now) (omega arith))

pub returns-then-not-s-a : goal.returns-then-not-s-a
returns-then-not-s-a c = let a = c.args in sym (short-is a.s.now a.a false (omega arith) (c.if-not-s-a.true))

pub returns-then-a-n : goal.returns-then-a-n
returns-then-a-n c = let a = c.args in sym (short-is a.s.now a.a true (omega arith) (c.if-not-s-a.false) ∙ ap (λ (b : Bool). b || eqb (get_or a.s.now (a.a + 2) 0) 44) (eq-eqb (a.a + 2) (length a.s.now) c.if-a-n.true))

pub returns : goal.returns
returns c = let a = c.args in sym (short-is a.s.now a.a true (omega arith) (c.if-not-s-a.false) ∙ ap (λ (b : Bool). b || eqb (get_or a.s.now (a.a + 2) 0) 44) (ne_eqb (a.a + 2) (length a.s.now) c.if-a-n.false))
