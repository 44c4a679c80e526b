use native.Mathlib.Omega.{arith}
use mathlib.Core.Path.{◌∙◌, ap}
use mathlib.Core.List.{List, ◌∷◌}
use Rattle.po.specs.Found.{Literal}
use Rattle.po.specs.Inner.Walk.{spot_at}
use Rattle.po.proofs.WalkLaws.{some-here}
use Rattle.po.proofs.past_lit.Goals as goal

pub advance-requires : goal.advance-requires
advance-requires c = record { stands = c.requires.ready.stands; at_in_bounds = c.requires.at_in_bounds }

pub next_lit-requires : goal.next_lit-requires
next_lit-requires c = c.advance.ensures.stands_2

pub returns : goal.returns
returns c =
    let a = c in
    let r = c.advance in
    let n = c.next_lit.ensures in
    record { ready_2 = n.ready; at_lt_at = omega (arith, r.ensures.at_lt_at, n.at_le_at); c_value = some-here a.args.t.now a.args.c r.result (a.requires.ready.lit a.requires.at_in_bounds) r.ensures.c_value ∙ ap (λ (ss : List Literal). spot_at a.args.t.now a.args.c ∷ ss) n.from_value }
