use mathlib.Core.Path.{sym, ap}
use mathlib.Core.Bool.{Bool, cond}
use Rattle.text.proofs.Whites.{ascii-dark}
use Rattle.text.proofs.white_ascii.Goals as goal

pub returns-then-a-gt32 : goal.returns-then-a-gt32
returns-then-a-gt32 c = sym (ap (λ (t : Bool). cond t 1 0) (ascii-dark _ c.if-a-gt32.true c.requires))
