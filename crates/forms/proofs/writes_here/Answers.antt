use mathlib.Core.Path.{sym, ◌∙◌}
use mathlib.Core.List.{[], ◌∷◌}
use Rattle.lines.proofs.Tests.{so}
use Rattle.forms.proofs.BreaksLaws.{here-store, here-rest, front-other, front-then}
use Rattle.forms.proofs.writes_here.Goals as goal

pub stores_here-requires : goal.stores_here-requires
stores_here-requires c = tt

pub returns-then-stores_here : goal.returns-then-stores_here
returns-then-stores_here c = sym (here-store _ _ (so c.stores_here.ensures c.if-stores_here.true))

pub starts_with-requires : goal.starts_with-requires
starts_with-requires c = tt

pub returns-then-not-starts_with : goal.returns-then-not-starts_with
returns-then-not-starts_with c =
    let a = c.args in
    sym (here-rest a.name.now a.l.now (so c.stores_here.ensures c.if-stores_here.false) ∙ front-other (43 ∷ 43 ∷ []) a.name.now a.l.now (sym c.starts_with.ensures ∙ c.if-not-starts_with.true))

pub cut-requires : goal.cut-requires
cut-requires c = tt

pub starts_with-requires-2 : goal.starts_with-requires-2
starts_with-requires-2 c = tt

pub returns : goal.returns
returns c =
    let a = c.args in
    c.starts_with-2.ensures
    ∙ sym (here-rest a.name.now a.l.now (so c.stores_here.ensures c.if-stores_here.false) ∙ front-then (43 ∷ 43 ∷ []) a.name.now a.l.now (sym c.starts_with.ensures ∙ c.if-not-starts_with.false) _ c.cut.ensures)
