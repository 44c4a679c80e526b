use mathlib.Core.Path.{sym, ap, ◌∙◌}
use Rattle.lines.specs.Lf.{lines_of}
use Rattle.std.specs.declared.option.Option.{Option}
use Rattle.names.specs.declared.Phi.{Phi}
use Rattle.phis.specs.Phis.{phi_dead}
use Rattle.phis.proofs.dead_by.Goals as goal

pub returns-in-Some : goal.returns-in-Some
returns-in-Some c = c.dead_phi.ensures ∙ sym (ap (λ (n : Option Phi). phi_dead n (lines_of c.args.text.now)) c.in-Some.is)

pub returns-in-None : goal.returns-in-None
returns-in-None c = sym (ap (λ (n : Option Phi). phi_dead n (lines_of c.args.text.now)) c.in-None.is)
