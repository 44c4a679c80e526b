use mathlib.Core.Path.{sym, ◌∙◌}
use Rattle.flaws.proofs.FlawLaws.{over-at, out_at, flaw-none, flaw-over, flaw-outside, flaw-cut, flaw-other}
use Rattle.flaws.proofs.flaw_at.Goals as goal

pub returns-then-s-i : goal.returns-then-s-i
returns-then-s-i c = sym (flaw-none _ _ c.if-s-i.true)

pub returns-then-is_overlong : goal.returns-then-is_overlong
returns-then-is_overlong c = sym (flaw-over _ (over-at _ _ _ _ c.if-s-i.false c.byte_at-a.ensures c.byte_at-b.ensures ∙ sym c.is_overlong.ensures ∙ c.if-is_overlong.true))

pub returns-then-is_outside : goal.returns-then-is_outside
returns-then-is_outside c = sym (flaw-outside _ (over-at _ _ _ _ c.if-s-i.false c.byte_at-a.ensures c.byte_at-b.ensures ∙ sym c.is_overlong.ensures ∙ c.if-is_overlong.false) (out_at _ _ _ _ c.if-s-i.false c.byte_at-a.ensures c.byte_at-b.ensures ∙ sym c.is_outside.ensures ∙ c.if-is_outside.true))

pub returns-then-is_cut : goal.returns-then-is_cut
returns-then-is_cut c = sym (flaw-cut _ (over-at _ _ _ _ c.if-s-i.false c.byte_at-a.ensures c.byte_at-b.ensures ∙ sym c.is_overlong.ensures ∙ c.if-is_overlong.false) (out_at _ _ _ _ c.if-s-i.false c.byte_at-a.ensures c.byte_at-b.ensures ∙ sym c.is_outside.ensures ∙ c.if-is_outside.false) (sym c.is_cut.ensures ∙ c.if-is_cut.true))

pub returns : goal.returns
returns c = sym (flaw-other _ (over-at _ _ _ _ c.if-s-i.false c.byte_at-a.ensures c.byte_at-b.ensures ∙ sym c.is_overlong.ensures ∙ c.if-is_overlong.false) (out_at _ _ _ _ c.if-s-i.false c.byte_at-a.ensures c.byte_at-b.ensures ∙ sym c.is_outside.ensures ∙ c.if-is_outside.false) (sym c.is_cut.ensures ∙ c.if-is_cut.false))
