use Rattle.std.proofs.Common.{ℕ, List, sym, ap, ◌∙◌}
use Rattle.lines.specs.Lf.{same}
use Rattle.reading.proofs.AssignLaws.{assign-split, assign-not}
use Rattle.temps.proofs.is_store.Goals as goal

pub returns-in-Some : goal.returns-in-Some
returns-in-Some c =
    let a = c.args in
    let w = assign-split a.t.now _ (sym c.in-Some.ensures) in
    rw w.assigns (c.same.ensures ∙ ap (λ (l : List ℕ). same l a.name.now) (c.left_of.ensures ∙ w.is-left))

pub returns-in-None : goal.returns-in-None
returns-in-None c = rw (assign-not c.args.t.now (sym c.in-None.ensures))
