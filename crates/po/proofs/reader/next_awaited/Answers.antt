use Prim.Native.Nat.{suc}
use native.Mathlib.Numerals.{add-one}
use mathlib.Core.Path.{sym, ap, ◌∙◌}
use mathlib.Core.Bool.{Bool, cond}
use borrow.Author.Tests.{eq-eqb, ne_eqb}
use Rattle.po.proofs.reader.next_awaited.Goals as goal

pub returns-then-w-eq6 : goal.returns-then-w-eq6
returns-then-w-eq6 c = let w = c.args.w in sym (ap (λ (b : Bool). cond b 3 (suc w)) (eq-eqb w 6 c.if-w-eq6.true))

pub returns : goal.returns
returns c = let w = c.args.w in add-one w ∙ sym (ap (λ (b : Bool). cond b 3 (suc w)) (ne_eqb w 6 c.if-w-eq6.false))
