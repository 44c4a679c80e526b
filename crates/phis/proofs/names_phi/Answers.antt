use mathlib.Core.Path.{sym, ap, ◌∙◌}
use Rattle.phis.specs.Phis.{is_phi}
use Rattle.phis.proofs.names_phi.Goals as goal

pub returns-in-Some : goal.returns-in-Some
returns-in-Some c = sym (ap is_phi (sym c.phi_name.ensures ∙ c.in-Some.is))

pub returns-in-None : goal.returns-in-None
returns-in-None c = sym (ap is_phi (sym c.phi_name.ensures ∙ c.in-None.is))
