use mathlib.Core.Path.{ap, sym, ◌∙◌}
use mathlib.Core.Bool.{Bool, cond}
use Prim.Native.Nat.{◌-◌}
use borrow.Author.Tests.{lt-ltb, le-ltb}
use Rattle.calls.proofs.later.read_span.Goals as goal

pub returns-then-h-r : goal.returns-then-h-r
returns-then-h-r c = let a = c.args in c.span.ensures ∙ sym (ap (λ (b : Bool). cond b (a.c - a.r) 0) (lt-ltb a.h a.r c.if-h-r.true))

pub returns : goal.returns
returns c = let a = c.args in sym (ap (λ (b : Bool). cond b (a.c - a.r) 0) (le-ltb a.h a.r c.if-h-r.false))
