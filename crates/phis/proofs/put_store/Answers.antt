use native.Mathlib.Omega.{arith}
use mathlib.Core.Path.{refl, sym, ap, ◌∙◌}
use lib.ListN.{length}
use Rattle.lines.proofs.Tests.{no}
use Rattle.lines.proofs.OutLaws.{wrote_as, wrote-nil}
use Rattle.reading.proofs.AssignLaws.{assign-split, assign-not}
use Rattle.reading.specs.Reading.{reading_of}
use Rattle.phis.proofs.Writes.{store-goes, store-stays, value-le, drop_more}
use Rattle.phis.proofs.put_store.Goals as goal

pub no_effect-requires : goal.no_effect-requires
no_effect-requires c =
    let a = c.args in
    omega (arith, value-le (reading_of a.mode.0) a.indent.now a.t.now c.right_of-x.result.now (c.right_of-x.ensures ∙ (assign-split a.t.now _ (sym c.assign_of.ensures ∙ c.in-Some.is)).is_right) _ refl, c.requires.1.0)

pub returns-then-no_effect : goal.returns-then-no_effect
returns-then-no_effect c =
    let a = c.args in
    let assign-of = c.assign_of in
    let right_of = c.right_of-x in
    let no-effect = c.no_effect in
    record { answer = wrote_as (sym (store-goes (reading_of a.mode.0) a.indent.now a.t.now right_of.result.now (right_of.ensures ∙ (assign-split a.t.now _ (sym assign-of.ensures ∙ c.in-Some.is)).is_right) no-effect.result no-effect.ensures.answer c.if-no_effect.true)) (wrote-nil a.out.now a.o (omega (arith, c.requires.1.1))); memory = drop_more (length right_of.result.now) (length a.t.now) _ _ (value-le (reading_of a.mode.0) a.indent.now a.t.now right_of.result.now (right_of.ensures ∙ (assign-split a.t.now _ (sym assign-of.ensures ∙ c.in-Some.is)).is_right) no-effect.result no-effect.ensures.answer) no-effect.ensures.memory }

pub put_value-requires : goal.put_value-requires
put_value-requires c =
    let a = c.args in
    let right_of = c.right_of-x in
    let no-effect = c.no_effect in
    omega (arith, c.requires.1.1, ap length (store-stays (reading_of a.mode.0) a.indent.now a.t.now right_of.result.now (right_of.ensures ∙ (assign-split a.t.now _ (sym c.assign_of.ensures ∙ c.in-Some.is)).is_right) no-effect.result no-effect.ensures.answer c.if-no_effect.false))

pub returns-else-no_effect : goal.returns-else-no_effect
returns-else-no_effect c =
    let a = c.args in
    let assign-of = c.assign_of in
    let right_of = c.right_of-x in
    let no-effect = c.no_effect in
    record { answer = wrote_as (sym (store-stays (reading_of a.mode.0) a.indent.now a.t.now right_of.result.now (right_of.ensures ∙ (assign-split a.t.now _ (sym assign-of.ensures ∙ c.in-Some.is)).is_right) no-effect.result no-effect.ensures.answer c.if-no_effect.false)) c.put_value.ensures; memory = drop_more (length right_of.result.now) (length a.t.now) _ _ (value-le (reading_of a.mode.0) a.indent.now a.t.now right_of.result.now (right_of.ensures ∙ (assign-split a.t.now _ (sym assign-of.ensures ∙ c.in-Some.is)).is_right) no-effect.result no-effect.ensures.answer) no-effect.ensures.memory }

pub returns-in-None : goal.returns-in-None
returns-in-None c =
    let h = sym (assign-not c.args.t.now (sym c.assign_of.ensures ∙ c.in-None.is)) ∙ c.requires.0 in
    record { answer = no h; memory = no h }
