use Rattle.std.proofs.Common.{◌∙◌, rules, tests}
use Rattle.std.proofs.lemmas.Iterator.Search.{any_from_yields_List}
use Rattle.lines.proofs.EachLists.{each-listed}
use Rattle.lines.specs.Lf.{lines_of}
use Rattle.phis.proofs.Searches.{stores_dead, dead-any}
use Rattle.phis.proofs.any_dead.Goals as goal

pub returns : goal.returns
returns c =
    let ls = lines_of c.args.text.now in
    any_from_yields_List (stores_dead ls) _ _ _ c.any.ensures.ran (each-listed c.each.ensures.text c.each.ensures.front) (λ x b q k. search (rules, tests))
    ∙ dead-any ls _
