use native.Mathlib.Omega.{arith}
use borrow.Author.Tests.{lt-ltb, le-ltb}
use Rattle.limits.specs.Entry.{byte_size}
use Rattle.limits.proofs.too_short.Goals as goal

pub returns-then-a-size : goal.returns-then-a-size
returns-then-a-size c = rw (lt-ltb c.args.a (byte_size c.args.m) (omega (arith, c.if-a-size.true, c.byte_size-size.ensures)))

pub returns-then-b-size : goal.returns-then-b-size
returns-then-b-size c = rw (le-ltb c.args.a (byte_size c.args.m) (omega (arith, c.if-a-size.false, c.byte_size-size.ensures)), lt-ltb c.args.b (byte_size c.args.m) (omega (arith, c.if-b-size.true, c.byte_size-size.ensures)))

pub returns-then-c-size : goal.returns-then-c-size
returns-then-c-size c = rw (le-ltb c.args.a (byte_size c.args.m) (omega (arith, c.if-a-size.false, c.byte_size-size.ensures)), le-ltb c.args.b (byte_size c.args.m) (omega (arith, c.if-b-size.false, c.byte_size-size.ensures)), lt-ltb c.args.c (byte_size c.args.m) (omega (arith, c.if-c-size.true, c.byte_size-size.ensures)))

pub returns-then-d-size : goal.returns-then-d-size
returns-then-d-size c = rw (le-ltb c.args.a (byte_size c.args.m) (omega (arith, c.if-a-size.false, c.byte_size-size.ensures)), le-ltb c.args.b (byte_size c.args.m) (omega (arith, c.if-b-size.false, c.byte_size-size.ensures)), le-ltb c.args.c (byte_size c.args.m) (omega (arith, c.if-c-size.false, c.byte_size-size.ensures)), lt-ltb c.args.d (byte_size c.args.m) (omega (arith, c.if-d-size.true, c.byte_size-size.ensures)))

pub returns-then-e-size : goal.returns-then-e-size
returns-then-e-size c = rw (le-ltb c.args.a (byte_size c.args.m) (omega (arith, c.if-a-size.false, c.byte_size-size.ensures)), le-ltb c.args.b (byte_size c.args.m) (omega (arith, c.if-b-size.false, c.byte_size-size.ensures)), le-ltb c.args.c (byte_size c.args.m) (omega (arith, c.if-c-size.false, c.byte_size-size.ensures)), le-ltb c.args.d (byte_size c.args.m) (omega (arith, c.if-d-size.false, c.byte_size-size.ensures)), lt-ltb c.args.e (byte_size c.args.m) (omega (arith, c.if-e-size.true, c.byte_size-size.ensures)))

pub returns : goal.returns
returns c = rw (le-ltb c.args.a (byte_size c.args.m) (omega (arith, c.if-a-size.false, c.byte_size-size.ensures)), le-ltb c.args.b (byte_size c.args.m) (omega (arith, c.if-b-size.false, c.byte_size-size.ensures)), le-ltb c.args.c (byte_size c.args.m) (omega (arith, c.if-c-size.false, c.byte_size-size.ensures)), le-ltb c.args.d (byte_size c.args.m) (omega (arith, c.if-d-size.false, c.byte_size-size.ensures)), le-ltb c.args.e (byte_size c.args.m) (omega (arith, c.if-e-size.false, c.byte_size-size.ensures)))
