use Prim.Native.Nat.{◌-◌}
use mathlib.Core.Bool.{true, false}
use native.Mathlib.Omega.{arith}
use lib.ListN.{drop}
use Rattle.lines.proofs.Tests.{so}
use Rattle.origins.proofs.Walks.{bare-le}
use Rattle.origins.proofs.Firsts.{told-away, told-inside, told-kept, by-stays, told_at, next-equal, next-changed}
use Rattle.origins.proofs.tell.Goals as goal

pub returns-then-c-eq-FAR : goal.returns-then-c-eq-FAR
returns-then-c-eq-FAR c =
    record { went = told-away _ _ _ c.if-c-eq-FAR.true; next = by-stays c.args.c _ _ (omega (arith, c.if-c-eq-FAR.true)) }

pub returns-then-c-ge-HALF : goal.returns-then-c-ge-HALF
returns-then-c-ge-HALF c =
    record { went = told-inside _ _ _ c.if-c-eq-FAR.false c.if-c-ge-HALF.true; next = by-stays _ _ _ c.if-c-ge-HALF.true }

pub bare_end-t-requires : goal.bare_end-t-requires
bare_end-t-requires c = c.requires.0

pub slice_bounds-first_is-count : goal.slice_bounds-first_is-count
slice_bounds-first_is-count c = omega (arith, c.bare_end-t.ensures)

pub slice_bounds-first_is-start : goal.slice_bounds-first_is-start
slice_bounds-first_is-start c = omega (arith, c.bare_end-t.ensures)

pub slice_bounds-first_is-end : goal.slice_bounds-first_is-end
slice_bounds-first_is-end c = let a = c.args in omega (arith, c.bare_end-t.ensures, c.requires.0, bare-le (drop a.i a.text.now) (a.e - a.i))

pub slice_bounds-first_is-count-2 : goal.slice_bounds-first_is-count-2
slice_bounds-first_is-count-2 c = c.requires.1

pub slice_bounds-first_is-start-2 : goal.slice_bounds-first_is-start-2
slice_bounds-first_is-start-2 c = c.requires.1

pub overflow_sub-t : goal.overflow_sub-t
overflow_sub-t c = omega (arith, c.bare_end-t.ensures)

pub overflow_add-p : goal.overflow_add-p
overflow_add-p c = let a = c.args in omega (arith, c.bare_end-t.ensures, c.requires.0, c.requires.1, bare-le (drop a.i a.text.now) (a.e - a.i))

pub returns-then-first_is : goal.returns-then-first_is
returns-then-first_is c =
    let a = c.args in
    let f = so (told_at a.text.now a.lf.now a.i a.e a.p a.c c.bare_end-t.result c.bare_end-t.ensures c.first_is.result c.first_is.ensures) c.if-first_is.true in
    record { went = told-kept _ _ a.c true (omega (arith, c.if-c-ge-HALF.false)) f; next = next-equal a.text.now a.lf.now a.i a.e a.p a.c c.bare_end-t.result c.bare_end-t.ensures f (omega (arith, c.bare_end-t.ensures, c.requires.0, bare-le (drop a.i a.text.now) (a.e - a.i))) (omega (arith, c.if-c-ge-HALF.false)) _ c.after.ensures }

pub returns : goal.returns
returns c =
    let a = c.args in
    let f = so (told_at a.text.now a.lf.now a.i a.e a.p a.c c.bare_end-t.result c.bare_end-t.ensures c.first_is.result c.first_is.ensures) c.if-first_is.false in
    record { went = told-kept _ _ a.c false (omega (arith, c.if-c-ge-HALF.false)) f; next = next-changed a.text.now a.lf.now a.i a.e a.p a.c c.bare_end-t.result c.bare_end-t.ensures f (omega (arith, c.if-c-ge-HALF.false)) _ _ c.find_byte-q.ensures c.after-2.ensures }
