use mathlib.Core.Path.{sym, ap, ◌∙◌}
use Rattle.names.specs.Names.{is_ident}
use Rattle.once.proofs.CallLaws.{any_none}
use Rattle.once.proofs.CalmLaws.{calm-none}
use Rattle.once.proofs.Scratches.{member-object, object-at, scratch-no, scratch-live, scratch-called, scratch-calm}
use Rattle.once.proofs.scratch_at.Goals as goal

pub returns-then-below-calm : goal.returns-then-below-calm
returns-then-below-calm c = let a = c.args in sym (scratch-calm _ _ _ (any_none a.x.now _ (calm-none a.x.now a.below.now a.calm c.requires.1 c.if-below-calm.true)))

pub returns-then-not-is_member : goal.returns-then-not-is_member
returns-then-not-is_member c = sym (scratch-no _ _ _ (sym c.is_member.ensures ∙ c.if-not-is_member.true))

pub live_below-requires : goal.live_below-requires
live_below-requires c = c.requires.0

pub returns-then-live_below : goal.returns-then-live_below
returns-then-live_below c = sym (scratch-live _ _ _ (sym c.is_member.ensures ∙ c.if-not-is_member.false) (sym c.live_below.ensures ∙ c.if-live_below.true))

pub returns-then-not-any_call : goal.returns-then-not-any_call
returns-then-not-any_call c = sym (sym (scratch-called _ _ _ (sym c.is_member.ensures ∙ c.if-not-is_member.false) (sym c.live_below.ensures ∙ c.if-live_below.false)) ∙ any_none _ _ (sym c.any_call.ensures ∙ c.if-not-any_call.true))

pub called_below-requires : goal.called_below-requires
called_below-requires c =
    let a = c.args in
    let o = c.cut.ensures ∙ object-at a.x.now c.find_byte-k.result c.find_byte-k.ensures in
    (o, ap is_ident o ∙ member-object a.x.now (sym c.is_member.ensures ∙ c.if-not-is_member.false))

pub returns : goal.returns
returns c = c.called_below.ensures ∙ scratch-called _ _ _ (sym c.is_member.ensures ∙ c.if-not-is_member.false) (sym c.live_below.ensures ∙ c.if-live_below.false)
