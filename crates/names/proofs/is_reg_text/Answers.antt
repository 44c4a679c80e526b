use mathlib.Core.Path.{◌∙◌}
use native.Mathlib.Omega.{arith}
use Rattle.names.proofs.Texts.{two-text}
use Rattle.names.proofs.is_reg_text.Goals as goal

pub returns-then-s-eq2 : goal.returns-then-s-eq2
returns-then-s-eq2 c = let a = c.args in c.names_reg.ensures ∙ two-text a.s.now a.reg.0 (omega arith) c.if-s-eq2.true
