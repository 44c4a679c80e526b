use Rattle.std.proofs.Common.{◌∙◌, rules, tests}
use Rattle.std.proofs.lemmas.Iterator.Consumers.{YieldsList-from_first}
use Rattle.std.proofs.lemmas.Iterator.Search.{all_from_yields_List}
use Rattle.lines.specs.Inner.Pieces.{pieces_left}
use Rattle.names.specs.Names.{is_ident}
use Rattle.forms.proofs.PrimaryLaws.{idents-all}
use Rattle.forms.proofs.all_idents.Goals as goal

pub returns : goal.returns
returns c =
    all_from_yields_List is_ident _ _ _ c.all.ensures.ran (YieldsList-from_first (λ x. x.now) pieces_left _ c.pieces.ensures) (λ x b q k. search (rules, tests))
    ∙ idents-all _
