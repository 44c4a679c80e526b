use native.Mathlib.Omega.{arith}
use mathlib.Core.Path.{sym, ap, ◌∙◌}
use Rattle.names.proofs.Decimal.{number_is, prints-not, prints-is}
use Rattle.po.proofs.reader.is_decimal.Goals as goal

pub returns-then-skip_zeros-gt0 : goal.returns-then-skip_zeros-gt0
returns-then-skip_zeros-gt0 c = let a = c.args in sym (prints-not a.s.now a.v (omega arith))

pub returns-in-Some : goal.returns-in-Some
returns-in-Some c = let a = c.args in sym (prints-is a.s.now a.v (omega arith) (omega arith) ∙ ap (number_is a.v) (sym c.read_number.ensures ∙ c.in-Some.is))

pub returns-in-None : goal.returns-in-None
returns-in-None c = let a = c.args in sym (prints-is a.s.now a.v (omega arith) (omega arith) ∙ ap (number_is a.v) (sym c.read_number.ensures ∙ c.in-None.is))
