use mathlib.Core.Path.{sym, ap, ◌∙◌}
use Rattle.lines.proofs.Tests.{so}
use Rattle.phis.specs.Phis.{phi_store}
use Rattle.phis.proofs.Held.{held-store}
use Rattle.phis.proofs.line_store.Goals as goal

pub returns-then-not-has_phi : goal.returns-then-not-has_phi
returns-then-not-has_phi c = sym (held-store c.args.line.now (so c.has_phi.ensures c.if-not-has_phi.true))

pub returns : goal.returns
returns c = c.phi_store.ensures ∙ ap phi_store c.trim_start.ensures
