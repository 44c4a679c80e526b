use Rattle.std.proofs.Common.{◌∙◌, rules, tests}
use Rattle.std.proofs.lemmas.Iterator.Search.{any_from_yields_List}
use Rattle.lines.proofs.EachLists.{each-listed}
use Rattle.reading.specs.Uses.{line_uses}
use Rattle.reading.proofs.UseLaws.{used-any}
use Rattle.reading.proofs.uses.Goals as goal

pub returns : goal.returns
returns c =
    let v = c.args.reg.0 in
    any_from_yields_List (line_uses v) _ _ _ c.any.ensures.ran (each-listed c.each.ensures.text c.each.ensures.front) (λ x b q k. search (rules, tests))
    ∙ used-any v _
