use mathlib.Core.Path.{sym, ◌∙◌}
use Rattle.lines.proofs.Tests.{so}
use Rattle.reading.proofs.AssignLaws.{assign-split, assign-not}
use Rattle.phis.proofs.Lines.{store-let, store_other, store_of}
use Rattle.phis.proofs.phi_store.Goals as goal

pub returns-then-is_let : goal.returns-then-is_let
returns-then-is_let c = sym (store-let c.args.t.now (so c.is_let.ensures c.if-is_let.true))

pub returns-in-Some : goal.returns-in-Some
returns-in-Some c =
    let a = c.args in
    let w = assign-split a.t.now _ (sym c.assign_of.ensures ∙ c.in-Some.is) in
    c.phi_name.ensures ∙ sym (store_of a.t.now c.left_of.result.now (c.left_of.ensures ∙ w.is-left) (so c.is_let.ensures c.if-is_let.false) w.assigns)

pub returns-in-None : goal.returns-in-None
returns-in-None c =
    let a = c.args in
    sym (store_other a.t.now (so c.is_let.ensures c.if-is_let.false) (assign-not a.t.now (sym c.assign_of.ensures ∙ c.in-None.is)))
