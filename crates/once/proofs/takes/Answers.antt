use mathlib.Core.Path.{sym, ap, ◌∙◌}
use Rattle.once.specs.Inner.Tables.{has_hit}
use Rattle.once.proofs.takes.Goals as goal

pub returns-in-Some : goal.returns-in-Some
returns-in-Some c = ap has_hit (sym c.in-Some.is ∙ c.find_reg.ensures)

pub returns-in-None : goal.returns-in-None
returns-in-None c = ap has_hit (sym c.in-None.is ∙ c.find_reg.ensures)
