use borrow.Author.Tests.{tests}
use Rattle.std.proofs.Common.{rules, sym, ◌∙◌}
use Rattle.std.proofs.lemmas.Iterator.{YieldsList-from_slice}
use Rattle.std.proofs.lemmas.Iterator.Search.{all_from_yields_List}
use Rattle.lines.proofs.Chains.{all_is_list_all}
use Rattle.text.specs.Class.{is_name}
use Rattle.names.proofs.Texts.{ident-none, ident-digit, ident-rest}
use Rattle.names.proofs.is_simple_ident.Goals as goal

pub returns-then-s-eq0 : goal.returns-then-s-eq0
returns-then-s-eq0 c = sym (ident-none _ c.if-s-eq0.true)

pub returns-then-d : goal.returns-then-d
returns-then-d c = sym (ident-digit _ c.if-d.true)

pub returns : goal.returns
returns c =
    let s = c.args.s.now in
    all_from_yields_List (λ b. is_name b) _ _ _ c.all.ensures.ran (YieldsList-from_slice s (cc)) (λ x b q k. search (rules, tests)) ∙ sym (all_is_list_all (λ b. is_name b) s) ∙ sym (ident-rest _ c.if-s-eq0.false c.if-d.false)
