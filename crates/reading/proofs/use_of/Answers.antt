use native.Mathlib.Omega.{arith}
use Rattle.reading.proofs.Digits.{lacks-digit}
use Rattle.reading.proofs.use_of.Goals as goal

pub returns-then-find_byte-line : goal.returns-then-find_byte-line
returns-then-find_byte-line c = lacks-digit _ _ _ c.last_digit.ensures (omega (arith, c.find_byte.ensures, c.if-find_byte-line.true))
