use mathlib.Core.Path.{sym, ◌∙◌}
use native.Mathlib.Omega.{arith}
use Rattle.text.proofs.Rows.{lead1, lead2, lead3, lead4, lead_low, lead_high, lead_e0, lead_eD, lead_f0, lead_f4}
use Rattle.text.proofs.seq_len.Goals as goal

pub returns-in-224 : goal.returns-in-224
returns-in-224 c = c.three.ensures ∙ sym (lead_e0 _ _ _ _ c.in-224.is)

pub returns-in-237 : goal.returns-in-237
returns-in-237 c = c.three-in-237.ensures ∙ sym (lead_eD _ _ _ _ c.in-237.is)

pub returns-in-240 : goal.returns-in-240
returns-in-240 c = c.four.ensures ∙ sym (lead_f0 _ _ _ _ c.in-240.is)

pub returns-in-244 : goal.returns-in-244
returns-in-244 c = c.four-in-244.ensures ∙ sym (lead_f4 _ _ _ _ c.in-244.is)

pub returns-in-0-to-127 : goal.returns-in-0-to-127
returns-in-0-to-127 c = sym (lead1 _ _ _ _ (omega arith))

pub returns-in-194-to-223 : goal.returns-in-194-to-223
returns-in-194-to-223 c = c.two.ensures ∙ sym (lead2 _ _ _ _ (omega arith) (omega arith))

pub returns-in-225-to-236 : goal.returns-in-225-to-236
returns-in-225-to-236 c = c.three-in-225-to-236.ensures ∙ sym (lead3 _ _ _ _ (omega arith) (omega arith) (omega arith))

pub returns-in-241-to-243 : goal.returns-in-241-to-243
returns-in-241-to-243 c = c.four-in-241-to-243.ensures ∙ sym (lead4 _ _ _ _ (omega arith) (omega arith))

pub returns-in_default : goal.returns-in_default
returns-in_default c = sym (lead_low _ _ _ _ (omega arith) (omega arith))

pub returns-in_default-2 : goal.returns-in_default-2
returns-in_default-2 c = sym (lead_high _ _ _ _ (omega arith))
