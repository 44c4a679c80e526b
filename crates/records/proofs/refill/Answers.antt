use Prim.Native.Nat.{ℕ, ◌+◌}
use mathlib.Core.Path.{ap}
use native.Mathlib.Omega.{arith}
use borrow.Author.Tests.{lt-ltb, le-ltb}
use Rattle.records.proofs.refill.Goals as goal

pub returns-then-k-past : goal.returns-then-k-past
returns-then-k-past c =
    let a = c.args in
    record { place = rw (lt-ltb a.k a.past c.if-k-past.true); records = rw (lt-ltb a.k a.past c.if-k-past.true) }

pub fill-requires : goal.fill-requires
fill-requires c = let p = c.requires in ((omega (arith, p.0.0, c.if-k-past.false), p.0.1), p.1 c.if-k-past.false)

pub overflow_add-result : goal.overflow_add-result
overflow_add-result c = let p = c.requires in omega (arith, p.0.0, p.0.1.0, c.if-k-past.false, c.fill.auto)

pub shape_of-recs : goal.shape_of-recs
shape_of-recs c = c.fill.auto.recs

pub returns : goal.returns
returns c =
    let a = c.args in
    record { place = rw (le-ltb a.k a.past c.if-k-past.false) (ap (λ (x : ℕ). a.past + x) c.fill.auto.recs); records = rw (le-ltb a.k a.past c.if-k-past.false) c.fill.ensures }
