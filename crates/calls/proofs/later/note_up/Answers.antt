use mathlib.Core.Path.{refl, ap, ◌∙◌}
use Prim.Native.Nat.{ℕ, ◌-◌, ◌<◌}
use native.Mathlib.Omega.{arith}
use Rattle.records.proofs.Shown.{told-long}
use Rattle.calls.proofs.Rows.{upward-start, upward-on, line-found, head-found}
use Rattle.calls.proofs.later.note_up.Goals as goal

pub loop-k-init : goal.loop-k-init
loop-k-init c = upward-start c.args.own.now c.args.text.now c.args.near.now c.args.stores.now c.args.notes.now c.args.m c.requires.1.1.1.0.count c.requires.0 c.requires.1.0 c.requires.1.1.0

pub overflow_sub-c : goal.overflow_sub-c
overflow_sub-c c = omega (arith, c.loop-k.invariant.within, c.requires.1.1.1.0.count)

pub overflow_cast-c : goal.overflow_cast-c
overflow_cast-c c = omega (arith, c.requires.1.1.1.1)

pub offset_bounds-ends-k : goal.offset_bounds-ends-k
offset_bounds-ends-k c = omega (arith, c.loop-k-test.true, c.loop-k.invariant.within, c.requires.1.1.1.0.count, (told-long c.requires.1.1.1.0).0)

pub bounds-ends-k : goal.bounds-ends-k
bounds-ends-k c = omega (arith, c.loop-k-test.true, c.loop-k.invariant.within, c.requires.1.1.1.0.count, (told-long c.requires.1.1.1.0).0)

pub start_at-requires : goal.start_at-requires
start_at-requires c = omega (arith, c.loop-k.invariant.within, c.requires.1.1.1.0.count, (told-long c.requires.1.1.1.0).0)

pub loop-k-preserved : goal.loop-k-preserved
loop-k-preserved c = let w = c.requires.1.1.1.0 in let i : c.loop-k.k - 1 < c.args.m = omega (arith, c.loop-k-test.true, c.loop-k.invariant.within, w.count) in let n = c.note_line.ensures in upward-on c.loop-k.invariant (c.loop-k.k - 1) (c.args.m - (c.loop-k.k - 1)) (omega (arith, c.loop-k-test.true)) refl (ap (λ (x : ℕ). x - (c.loop-k.k - 1)) w.count) (line-found w (c.loop-k.k - 1) i refl c.start_at.ensures c.cut-line.ensures) n.reads n.stores n.notes (c.head_at-h.ensures ∙ head-found w (c.loop-k.k - 1) i refl (c.args.m - (c.loop-k.k - 1)) c.loop-k.h)

pub shape_of-near : goal.shape_of-near
shape_of-near c = c.loop-k.invariant.same-near

pub shape_of-stores : goal.shape_of-stores
shape_of-stores c = c.loop-k.invariant.same-stores

pub shape_of-notes : goal.shape_of-notes
shape_of-notes c = c.loop-k.invariant.same-notes

pub returns : goal.returns
returns c = c.loop-k.invariant.spans
