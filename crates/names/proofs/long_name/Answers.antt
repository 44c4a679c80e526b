use mathlib.Core.Path.{sym, ap, ◌∙◌}
use Rattle.names.specs.Names.{reg_by}
use Rattle.names.proofs.Texts.{reg-by}
use Rattle.names.proofs.long_name.Goals as goal

pub returns-in_err-number_after : goal.returns-in_err-number_after
returns-in_err-number_after c = c.from_residual.ensures ∙ sym (reg-by c.args.s.now ∙ ap reg_by (sym c.number_after.ensures ∙ c.in_err-number_after.was))

pub returns : goal.returns
returns c = sym (reg-by c.args.s.now ∙ ap reg_by (sym c.number_after.ensures ∙ c.in_ok-number_after.was))
