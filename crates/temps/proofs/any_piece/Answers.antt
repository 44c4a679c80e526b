use Rattle.std.proofs.Common.{ℕ, List, ◌∙◌, rules, tests}
use Rattle.std.proofs.lemmas.Iterator.Consumers.{YieldsList-from_first}
use Rattle.std.proofs.lemmas.Iterator.Search.{any_from_yields_List}
use Rattle.lines.specs.Inner.Pieces.{pieces_left}
use Rattle.lines.specs.Lf.{same}
use Rattle.text.specs.Trim.{trim_of}
use Rattle.temps.proofs.TempLaws.{piece-any}
use Rattle.temps.proofs.any_piece.Goals as goal

pub returns : goal.returns
returns c =
    let x = c.args.name.now in
    any_from_yields_List (λ (p : List ℕ). same (trim_of p) x) _ _ _ c.any.ensures.ran (YieldsList-from_first (λ x. x.now) pieces_left _ c.pieces.ensures) (λ x b q k. search (rules, tests))
    ∙ piece-any x _
