use mathlib.Core.Path.{ap, ◌∙◌}
use Rattle.lexical.specs.Inner.Plain.{low_last}
use Rattle.lexical.proofs.low_last.Goals as goal

pub returns : goal.returns
returns c = c.low_end.ensures ∙ ap (low_last c.args.last) c.cut.ensures
