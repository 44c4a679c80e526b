use mathlib.Core.Path.{sym, ◌∙◌}
use mathlib.Core.List.{[], ◌∷◌}
use Rattle.forms.proofs.BreaksLaws.{front-other, front-then}
use Rattle.forms.proofs.stores_here.Goals as goal

pub starts_with-requires : goal.starts_with-requires
starts_with-requires c = tt

pub returns-then-not-starts_with : goal.returns-then-not-starts_with
returns-then-not-starts_with c =
    let a = c.args in
    let h = sym c.starts_with.ensures ∙ c.if-not-starts_with.true in
    rw (front-other a.name.now (32 ∷ 61 ∷ []) a.l.now h, front-other a.name.now (43 ∷ 43 ∷ []) a.l.now h)

pub cut-rest-requires : goal.cut-rest-requires
cut-rest-requires c = tt

pub starts_with-requires-2 : goal.starts_with-requires-2
starts_with-requires-2 c = tt

pub starts_with-requires-3 : goal.starts_with-requires-3
starts_with-requires-3 c = tt

pub returns : goal.returns
returns c =
    let a = c.args in
    let h = sym c.starts_with.ensures ∙ c.if-not-starts_with.false in
    let e = c.cut-rest.ensures in
    rw (front-then a.name.now (32 ∷ 61 ∷ []) a.l.now h _ e, front-then a.name.now (43 ∷ 43 ∷ []) a.l.now h _ e, c.starts_with-2.ensures, c.starts_with-3.ensures)
