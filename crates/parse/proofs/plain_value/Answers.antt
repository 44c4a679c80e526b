use Prim.Native.Nat.{◌+◌}
use native.Mathlib.Omega.{arith}
use lib.ListN.{length}
use borrow.Author.Tests.{le-leb, lt-leb}
use Rattle.parse.proofs.plain_value.Goals as goal

pub returns-then-n-lt5 : goal.returns-then-n-lt5
returns-then-n-lt5 c = let a = c.args in rw (lt-leb (a.e + 5) (length a.line.now) (omega arith))

pub returns-then-n-e : goal.returns-then-n-e
returns-then-n-e c = let a = c.args in rw (lt-leb (a.e + 5) (length a.line.now) (omega arith))

pub returns : goal.returns
returns c = let a = c.args in rw (le-leb (a.e + 5) (length a.line.now) (omega arith))
