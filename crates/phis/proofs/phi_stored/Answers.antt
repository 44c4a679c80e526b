use Rattle.std.proofs.Common.{◌∙◌, rules, tests}
use Rattle.std.proofs.lemmas.Iterator.Search.{any_from_yields_List}
use Rattle.lines.proofs.EachLists.{each-listed}
use Rattle.phis.proofs.Searches.{stores_it, stored-any}
use Rattle.phis.proofs.phi_stored.Goals as goal

pub returns : goal.returns
returns c =
    let p = c.args.phi.0 in
    any_from_yields_List (stores_it p) _ _ _ c.any.ensures.ran (each-listed c.each.ensures.text c.each.ensures.front) (λ x b q k. search (rules, tests))
    ∙ stored-any p _
