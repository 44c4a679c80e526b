use native.Mathlib.Omega.{arith}
use Rattle.lines.proofs.Tests.{no}
use Rattle.calls.proofs.later.pays.Goals as goal

pub returns-then-m-lt-FEW : goal.returns-then-m-lt-FEW
returns-then-m-lt-FEW c = λ h. no h

pub returns-then-m-ge-MANY : goal.returns-then-m-ge-MANY
returns-then-m-ge-MANY c = λ h. no h

pub overflow_sub-last : goal.overflow_sub-last
overflow_sub-last c = omega (arith, c.if-m-lt-FEW.false)

pub overflow_sub-left : goal.overflow_sub-left
overflow_sub-left c = omega (arith, c.probe-left.ensures)

pub returns : goal.returns
returns c = λ _. omega (arith, c.if-m-ge-MANY.false)
