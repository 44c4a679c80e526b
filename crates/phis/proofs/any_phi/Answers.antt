use Rattle.std.proofs.Common.{◌∙◌, rules, tests}
use Rattle.std.proofs.lemmas.Iterator.Consumers.{YieldsList-from_first}
use Rattle.std.proofs.lemmas.Iterator.Search.{any_from_yields_List}
use Rattle.lines.specs.Inner.Pieces.{pieces_left}
use Rattle.phis.proofs.Searches.{piece_is, phi-any}
use Rattle.phis.proofs.any_phi.Goals as goal

pub returns : goal.returns
returns c =
    let p = c.args.phi.0 in
    any_from_yields_List (piece_is p) _ _ _ c.any.ensures.ran (YieldsList-from_first (λ x. x.now) pieces_left _ c.pieces.ensures) (λ x b q k. search (rules, tests))
    ∙ phi-any p _
