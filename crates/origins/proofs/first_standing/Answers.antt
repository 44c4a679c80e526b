use Rattle.std.proofs.Common.{rules, ◌≡◌, ◌==◌, length, ◌∙◌, ap, ℕ}
use Rattle.std.specs.Prelude.{position, unwrap_or, Option}
use Rattle.std.proofs.lemmas.Iterator.{YieldsList-from_slice}
use Rattle.std.proofs.lemmas.Iterator.Search.{position_from_yields_List}
use Rattle.lines.proofs.Chains.{position_is_up_to}
use Rattle.origins.proofs.first_standing.Goals as goal
use borrow.Author.Tests.{tests}

pub returns : goal.returns
returns c =
    let s = c.args.moves.now in
    let e : c.position.result ≡ position (λ x. x == 0) s =
    position_from_yields_List (λ x. x == 0) _ _ _ c.position.ensures.ran (YieldsList-from_slice s (cc)) (λ x b q k. search (rules, tests)) in
    c.unwrap_or.ensures ∙ ap (λ (o : Option ℕ). unwrap_or o (length s)) e ∙ position_is_up_to 0 s
