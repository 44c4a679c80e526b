use Rattle.std.proofs.Common.{◌∙◌, rules, tests}
use Rattle.std.proofs.lemmas.Iterator.Consumers.{YieldsList-from_first}
use Rattle.std.proofs.lemmas.Iterator.Search.{all_from_yields_List}
use Rattle.lines.specs.Inner.Pieces.{pieces_left}
use Rattle.phis.proofs.Searches.{piece_phi, phis-all}
use Rattle.phis.proofs.all_phis.Goals as goal

pub returns : goal.returns
returns c =
    all_from_yields_List piece_phi _ _ _ c.all.ensures.ran (YieldsList-from_first (λ x. x.now) pieces_left _ c.pieces.ensures) (λ x b q k. search (rules, tests))
    ∙ phis-all _
