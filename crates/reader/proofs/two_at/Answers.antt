use Prim.Native.Nat.{◌+◌}
use native.Mathlib.Omega.{arith}
use Rattle.reader.proofs.Laws.{two_is}
use Rattle.reader.proofs.two_at.Goals as goal

pub bounds-s-i : goal.bounds-s-i
bounds-s-i c = omega (arith, c.requires)

pub overflow_cast-a : goal.overflow_cast-a
overflow_cast-a c = omega (arith, c.shared_slice_known-1.given c.args.i)

pub bounds-s-i-2 : goal.bounds-s-i-2
bounds-s-i-2 c = omega (arith, c.requires)

pub overflow_cast-b : goal.overflow_cast-b
overflow_cast-b c = omega (arith, c.shared_slice_known-2-1.given (c.args.i + 1))

pub overflow_mul-result : goal.overflow_mul-result
overflow_mul-result c = omega (arith, c.shared_slice_known-2-1.given (c.args.i + 1))

pub overflow_add-result : goal.overflow_add-result
overflow_add-result c = omega (arith, c.shared_slice_known-2-1.given (c.args.i + 1), c.shared_slice_known-1.given c.args.i)

pub returns : goal.returns
returns c =
    record { value = two_is c.args.s.now c.args.i c.requires; small = omega (arith, c.shared_slice_known-2-1.given (c.args.i + 1), c.shared_slice_known-1.given c.args.i) }
