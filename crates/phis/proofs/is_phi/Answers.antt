use mathlib.Core.Path.{sym, ap}
use Rattle.names.specs.Names.{phi_is}
use Rattle.phis.proofs.is_phi.Goals as goal

pub returns-in-Some : goal.returns-in-Some
returns-in-Some c = sym (ap (phi_is c.args.phi.0) c.in-Some.is)
