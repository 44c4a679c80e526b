use Rattle.std.proofs.Common.{ℕ, List, ◌∙◌, rules, tests, ltb}
use Rattle.std.proofs.lemmas.Iterator.Search.{any_from_yields_List}
use Rattle.lines.proofs.EachLists.{each-listed}
use Rattle.text.specs.Trim.{trim_of}
use Rattle.temps.specs.Temps.{temp_reads}
use Rattle.temps.proofs.TempLaws.{read-any}
use Rattle.temps.proofs.temp_read.Goals as goal

pub returns : goal.returns
returns c =
    let x = c.args.name.now in
    any_from_yields_List (λ (l : List ℕ). ltb 0 (temp_reads x (trim_of l))) _ _ _ c.any.ensures.ran (each-listed c.each.ensures.text c.each.ensures.front) (λ x b q k. search (rules, tests))
    ∙ read-any x _
