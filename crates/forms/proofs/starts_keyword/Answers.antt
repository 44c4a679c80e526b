use mathlib.Core.Path.{◌∙◌}
use mathlib.Core.List.{[], ◌∷◌}
use Rattle.forms.proofs.Ors.{ors}
use Rattle.forms.proofs.starts_keyword.Goals as goal

pub starts_with-requires : goal.starts_with-requires
starts_with-requires c = tt

pub starts_with-requires-2 : goal.starts_with-requires-2
starts_with-requires-2 c = tt

pub starts_with-requires-3 : goal.starts_with-requires-3
starts_with-requires-3 c = tt

pub starts_with-requires-4 : goal.starts_with-requires-4
starts_with-requires-4 c = tt

pub starts_with-requires-5 : goal.starts_with-requires-5
starts_with-requires-5 c = tt

pub starts_with-requires-6 : goal.starts_with-requires-6
starts_with-requires-6 c = tt

pub starts_with-requires-7 : goal.starts_with-requires-7
starts_with-requires-7 c = tt

pub starts_with-requires-8 : goal.starts_with-requires-8
starts_with-requires-8 c = tt

pub returns : goal.returns
returns c =
    let c7 = c.before.before in
    let c6 = c7.before.before in
    let c5 = c6.before.before in
    let c4 = c5.before.before in
    let c3 = c4.before.before in
    let c2 = c3.before.before in
    let c1 = c2.before.before in
    ors c1.starts_with.result
    (c2.starts_with-2.result ∷ c3.starts_with-3.result ∷ c4.starts_with-4.result ∷ c5.starts_with-5.result ∷ c6.starts_with-6.result ∷ c7.starts_with-7.result ∷ c.starts_with-8.result ∷ [])
    ∙ rw (c1.starts_with.ensures, c2.starts_with-2.ensures, c3.starts_with-3.ensures, c4.starts_with-4.ensures, c5.starts_with-5.ensures, c6.starts_with-6.ensures, c7.starts_with-7.ensures, c.starts_with-8.ensures)
