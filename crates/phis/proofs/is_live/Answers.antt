use mathlib.Core.Path.{sym, ap, ◌∙◌}
use mathlib.Core.Bool.{not}
use Rattle.lines.specs.Lf.{lines_of}
use Rattle.phis.specs.Inner.Rounds.{live_by}
use Rattle.phis.proofs.is_live.Goals as goal

pub returns-in-Some : goal.returns-in-Some
returns-in-Some c = ap not c.dead_phi.ensures ∙ sym (ap (live_by (lines_of c.args.text.now)) (sym c.phi_name.ensures ∙ c.in-Some.is))

pub returns-in-None : goal.returns-in-None
returns-in-None c = sym (ap (live_by (lines_of c.args.text.now)) (sym c.phi_name.ensures ∙ c.in-None.is))
