use native.Mathlib.Omega.{arith}
use mathlib.Core.Path.{sym, ◌∙◌}
use Rattle.lines.proofs.Tests.{so}
use Rattle.phis.proofs.Lines.{let-long, decl-other, decl-let}
use Rattle.phis.proofs.phi_decl.Goals as goal

pub returns-then-not-is_let : goal.returns-then-not-is_let
returns-then-not-is_let c = sym (decl-other c.args.t.now (so c.is_let.ensures c.if-not-is_let.true))

pub overflow_sub-t : goal.overflow_sub-t
overflow_sub-t c = omega (arith, let-long c.args.t.now (so c.is_let.ensures c.if-not-is_let.false))

pub returns : goal.returns
returns c = c.all_phis.ensures ∙ sym (decl-let c.args.t.now c.cut.result.now c.cut.ensures (so c.is_let.ensures c.if-not-is_let.false))
