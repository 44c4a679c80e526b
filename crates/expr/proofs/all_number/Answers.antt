use Rattle.std.proofs.Common.{rules, tests}
use Rattle.std.proofs.lemmas.Iterator.{YieldsList-from_slice}
use Rattle.std.proofs.lemmas.Iterator.Search.{all_from_yields_List}
use Rattle.expr.specs.Pure.{is_number_byte}
use Rattle.expr.proofs.all_number.Goals as goal

pub returns : goal.returns
returns c = all_from_yields_List is_number_byte _ _ _ c.all.ensures.ran (YieldsList-from_slice _ c.iter.ensures.rest) (λ x b q k. search (rules, tests))
