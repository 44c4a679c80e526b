use native.Mathlib.Omega.{arith}
use Rattle.lexical.proofs.PlainLaws.{plain-le}
use Rattle.place.proofs.Walks.{walk-whole, brace-room, brace-done}
use Rattle.place.proofs.walk_from.Goals as goal

pub returns-then-k-line : goal.returns-then-k-line
returns-then-k-line c = walk-whole c.args.line.now c.args.block c.args.up.now c.args.n c.args.k c.requires.1 c.requires.0 c.if-k-line.true c.low_last.ensures

pub bounds-line-k : goal.bounds-line-k
bounds-line-k c = omega (arith, c.requires.0, plain-le c.args.line.now, c.if-k-line.false)

pub overflow_add-k : goal.overflow_add-k
overflow_add-k c = omega (arith, c.requires.0, plain-le c.args.line.now, c.if-k-line.false)

pub brace-x-requires : goal.brace-x-requires
brace-x-requires c = brace-room c.args.line.now c.args.block c.args.up.now c.args.n c.args.k c.requires.1 c.requires.0 c.if-k-line-2.true

pub overflow_cast-result : goal.overflow_cast-result
overflow_cast-result c = omega (arith, c.shared_slice_known-2-1.given c.args.k)

pub returns-then-k-line-2 : goal.returns-then-k-line-2
returns-then-k-line-2 c = brace-done c.args.line.now c.args.block c.args.up.now c.args.n c.args.k c.requires.1 c.requires.0 c.if-k-line-2.true c.brace-x.ensures
