use mathlib.Core.Path.{sym, ◌∙◌}
use native.Mathlib.Omega.{arith}
use Rattle.names.proofs.Texts.{reg-first, reg-two}
use Rattle.names.proofs.reg_name.Goals as goal

pub returns-then-byte_at-ne114 : goal.returns-then-byte_at-ne114
returns-then-byte_at-ne114 c = sym (reg-first c.args.s.now (omega (arith, c.byte_at.ensures, c.if-byte_at-ne114.true)))

pub returns-then-s-eq2 : goal.returns-then-s-eq2
returns-then-s-eq2 c = c.digit_name.ensures ∙ sym (reg-two c.args.s.now c.if-s-eq2.true (omega (arith, c.byte_at.ensures, c.if-byte_at-ne114.false)))
