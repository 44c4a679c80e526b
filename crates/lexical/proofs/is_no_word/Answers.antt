use Rattle.std.proofs.Common.{drop, ap, ◌∙◌, rules, tests}
use Rattle.std.proofs.lemmas.List.{take_rest}
use Rattle.std.specs.List.{list_all}
use Rattle.std.proofs.lemmas.Iterator.{YieldsList-from_slice}
use Rattle.std.proofs.lemmas.Iterator.Search.{all_from_yields_List}
use Rattle.std.specs.Char.{is_ascii_digit}
use Rattle.lexical.proofs.WordLaws.{bare-other, bare-start, digits-all}
use Rattle.lexical.proofs.is_no_word.Goals as goal

pub returns-then-w-ne114 : goal.returns-then-w-ne114
returns-then-w-ne114 c = bare-other c.args.w.now c.if-w-eq0.false c.if-w-ne114.true

pub returns : goal.returns
returns c =
    all_from_yields_List is_ascii_digit _ _ _ c.all.ensures.ran (YieldsList-from_slice _ c.iter.ensures.rest) (λ x b q k. search (rules, tests))
    ∙ ap (list_all is_ascii_digit) (take_rest c.args.w.now 1) ∙ digits-all (drop 1 c.args.w.now) ∙ bare-start c.args.w.now c.if-w-eq0.false c.if-w-ne114.false
