use Prim.Native.Nat.{◌+◌}
use native.Mathlib.Omega.{arith}
use lib.ListN.{length}
use borrow.Author.Tests.{le-leb, lt-leb}
use Rattle.reading.proofs.plain_sides.Goals as goal

pub returns-then-k-lt2 : goal.returns-then-k-lt2
returns-then-k-lt2 c = rw (lt-leb 2 c.args.k c.if-k-lt2.true)

pub overflow_add-k : goal.overflow_add-k
overflow_add-k c = omega (arith, c.requires)

pub returns-then-n-k : goal.returns-then-n-k
returns-then-n-k c = rw (le-leb 2 c.args.k c.if-k-lt2.false, lt-leb (c.args.k + 3) (length c.args.u.now) c.if-n-k.true)

pub returns : goal.returns
returns c = rw (le-leb 2 c.args.k c.if-k-lt2.false, le-leb (c.args.k + 3) (length c.args.u.now) c.if-n-k.false, c.is_dark.ensures, c.is_dark-2.ensures, c.is_dark-3.ensures, c.is_dark-4.ensures)
