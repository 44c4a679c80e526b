use borrow.Author.Tests.{tests}
use Rattle.std.proofs.Common.{rules, sym, ◌∙◌}
use Rattle.std.proofs.lemmas.Iterator.{YieldsList-from_slice}
use Rattle.std.proofs.lemmas.Iterator.Search.{all_from_yields_List}
use Rattle.lines.proofs.Chains.{all_is_list_all}
use Rattle.names.specs.Names.{is_digit}
use Rattle.names.proofs.all_digits.Goals as goal

pub returns : goal.returns
returns c =
    let s = c.args.s.now in
    all_from_yields_List (λ d. is_digit d) _ _ _ c.all.ensures.ran (YieldsList-from_slice s (cc)) (λ x b q k. search (rules, tests)) ∙ sym (all_is_list_all (λ d. is_digit d) s)
