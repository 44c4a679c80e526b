use mathlib.Core.Path.{sym, ◌∙◌}
use Rattle.names.proofs.Texts.{digit-other, digit-is}
use Rattle.names.proofs.digit_name.Goals as goal

pub returns-in_err-digit : goal.returns-in_err-digit
returns-in_err-digit c = c.from_residual.ensures ∙ sym (digit-other c.args.d c.in_err-digit.ensures)

pub returns : goal.returns
returns c = let e = c.in_ok-digit.ensures in rw e.1 (sym (digit-is c.args.d e.0))
