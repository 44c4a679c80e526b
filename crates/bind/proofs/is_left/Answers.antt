use mathlib.Core.Bool.{not}
use mathlib.Core.Path.{sym, ap, ◌∙◌}
use Rattle.bind.specs.Inner.Steps.{bound_at, fails}
use Rattle.bind.proofs.is_left.Goals as goal

pub returns-in-Some : goal.returns-in-Some
returns-in-Some c = let a = c.args in
    ap not c.told.ensures ∙ sym (ap (fails (bound_at a.text.now a.s a.blocks.now a.starts.now)) (sym c.reg_name.ensures ∙ c.in-Some.is))

pub returns-in-None : goal.returns-in-None
returns-in-None c = let a = c.args in
    sym (ap (fails (bound_at a.text.now a.s a.blocks.now a.starts.now)) (sym c.reg_name.ensures ∙ c.in-None.is))
