use native.Mathlib.Omega.{arith}
use Rattle.text.proofs.Trims.{two-told}
use Rattle.text.proofs.two_spaces.Goals as goal

pub returns : goal.returns
returns c = two-told c.args.s.now (omega arith)
