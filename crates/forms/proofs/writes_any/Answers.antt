use Rattle.std.proofs.Common.{◌∙◌, rules, tests}
use Rattle.std.proofs.lemmas.Iterator.Consumers.{YieldsList-from_first}
use Rattle.std.proofs.lemmas.Iterator.Search.{any_from_yields_List}
use Rattle.lexical.specs.Inner.Words.{words_left}
use Rattle.forms.specs.Breaks.{writes}
use Rattle.forms.proofs.BreaksLaws.{any-writes}
use Rattle.forms.proofs.writes_any.Goals as goal

pub returns : goal.returns
returns c =
    any_from_yields_List (λ n. writes n c.args.line.now) c.any.new.self _ _ c.any.ensures.ran (YieldsList-from_first (λ x. x.now) words_left _ c.each.ensures) (λ x b q k. search (rules, tests))
    ∙ any-writes _ c.args.line.now
