use Rattle.std.proofs.Common.{not, sym, ap, ◌∙◌, rules, tests}
use Rattle.std.proofs.lemmas.Iterator.Adapters.{YieldsList-from_rev_slice}
use Rattle.std.proofs.lemmas.Iterator.Search.{find_from_yields_List}
use Rattle.std.specs.Slice.Iter.{iter_rest}
use Rattle.std.specs.Option.{option_map}
use Rattle.text.specs.White.{is_white}
use Rattle.lexical.proofs.PlainLaws.{low-back}
use Rattle.lexical.proofs.low_end.Goals as goal

pub returns-in-Some : goal.returns-in-Some
returns-in-Some c =
    let t = c.args.t.now in
    let found = find_from_yields_List (λ b. not (is_white b)) _ _ c.find.result c.find.ensures.ran (YieldsList-from_rev_slice t (ap iter_rest c.rev.ensures.source ∙ c.iter.ensures.rest)) (λ x b q k. search (rules, tests)) in
    low-back c.args.last t _ (sym (ap (option_map (λ x. x.now)) c.in-Some.is) ∙ found)

pub returns-in-None : goal.returns-in-None
returns-in-None c =
    let t = c.args.t.now in
    let found = find_from_yields_List (λ b. not (is_white b)) _ _ c.find.result c.find.ensures.ran (YieldsList-from_rev_slice t (ap iter_rest c.rev.ensures.source ∙ c.iter.ensures.rest)) (λ x b q k. search (rules, tests)) in
    low-back c.args.last t _ (sym (ap (option_map (λ x. x.now)) c.in-None.is) ∙ found)
