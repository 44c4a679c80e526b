use native.Mathlib.Omega.{arith}
use mathlib.Core.Path.{sym}
use Rattle.once.proofs.CallLaws.{no_call}
use Rattle.once.proofs.line_calls.Goals as goal

pub returns-then-k-s : goal.returns-then-k-s
returns-then-k-s c = let a = c.args in sym (no_call a.x.now a.s.now (omega (arith, c.find_byte-k.ensures, c.if-k-s.true)))
