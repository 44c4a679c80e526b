use borrow.Author.Tests.{tests}
use Rattle.std.proofs.Common.{rules, ◌≡◌, ℕ, ◌==◌, not, length, ap, ◌∙◌}
use Rattle.std.proofs.lemmas.Iterator.{YieldsList-from_slice}
use Rattle.std.proofs.lemmas.Iterator.Search.{position_from_yields_List}
use Rattle.std.specs.Prelude.{Option, position, unwrap_or}
use Rattle.std.specs.List.{position_or_len}
use Rattle.lines.proofs.Chains.{first_or_all}
use Rattle.text.proofs.Trims.{front-spaces}
use Rattle.text.proofs.spaces.Goals as goal

pub returns : goal.returns
returns c =
    let s = c.args.s.now in
    let f = front-spaces s in
    let e : c.position.result ≡ position (λ b. not (b == 32)) s = position_from_yields_List (λ b. not (b == 32)) _ _ _ c.position.ensures.ran (YieldsList-from_slice s (cc)) (λ x b q k. search (rules, tests)) in
    let r : c.unwrap_or.result ≡ position_or_len (λ b. not (b == 32)) s = c.unwrap_or.ensures ∙ ap (λ (o : Option ℕ). unwrap_or o (length s)) e ∙ first_or_all _ _ f.0 in
    rw r f
