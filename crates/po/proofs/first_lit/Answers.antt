use mathlib.Core.Path.{◌∙◌}
use Rattle.po.proofs.WalkLaws.{first-start}
use Rattle.po.proofs.first_lit.Goals as goal

pub next_lit-requires : goal.next_lit-requires
next_lit-requires c = (first-start c.args.t.now c.line_from.result c.line_from.ensures).0

pub returns : goal.returns
returns c =
    let r = c.line_from in
    let n = c.next_lit.ensures in
    record { ready = n.ready; t_value = (first-start c.args.t.now r.result r.ensures).1 ∙ n.from_value }
