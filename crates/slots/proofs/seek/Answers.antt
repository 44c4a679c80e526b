use Rattle.std.proofs.Common.{ℕ, get_or, sym, ap, ◌∙◌, arith}
use Rattle.slots.proofs.SlotLaws.{seek-here, seek-not, seek-end}
use Rattle.slots.proofs.seek.Goals as goal

pub returns-then-own-i : goal.returns-then-own-i
returns-then-own-i c = let a = c.args in c.spot-i.ensures ∙ sym (seek-end a.own.now a.v (omega (arith, c.if-own-i.true, c.spot-i.ensures)))

pub returns-then-own-i-2 : goal.returns-then-own-i-2
returns-then-own-i-2 c = let a = c.args in c.spot-i.ensures ∙ sym (seek-here a.own.now a.v (ap (λ (i : ℕ). get_or a.own.now i 0) (sym c.spot-i.ensures) ∙ c.if-own-i-2.true))

pub returns : goal.returns
returns c = let a = c.args in sym (seek-not a.own.now a.v (λ e. c.if-own-i-2.false (ap (λ (i : ℕ). get_or a.own.now i 0) c.spot-i.ensures ∙ e)))
