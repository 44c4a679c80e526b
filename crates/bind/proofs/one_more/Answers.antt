use native.Mathlib.Omega.{arith}
use Rattle.bind.proofs.one_more.Goals as goal

pub returns-then-b : goal.returns-then-b
returns-then-b c = rw c.if-b.true (omega arith)

pub returns : goal.returns
returns c = rw c.if-b.false (omega arith)
