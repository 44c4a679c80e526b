use Prim.Native.Nat.{ℕ, ◌+◌, ◌-◌}
use mathlib.Core.Path.{refl, sym, ap, ◌∙◌}
use mathlib.Core.List.{List}
use native.Mathlib.Omega.{arith}
use lib.ListN.{length, length-set}
use Rattle.lines.specs.Lf.{part, lines_of}
use Rattle.once.proofs.NoteFills.{once-none, notes-none, note-start, note-lf, note-row, note-count, note-on, ones-of, note-lengths}
use Rattle.once.proofs.noted.note_up.Goals as goal

pub returns-then-not-ends_lf : goal.returns-then-not-ends_lf
returns-then-not-ends_lf c =
    record { once = once-none (lines_of c.args.text.now) c.args.notes.now c.requires.1.1.1.1.1.0; notes = notes-none (lines_of c.args.text.now) c.args.paths.now c.args.notes.now c.requires.1.1.1.1.1.0 }

pub returns-then-n-gt-LAST_ROW : goal.returns-then-n-gt-LAST_ROW
returns-then-n-gt-LAST_ROW c =
    record { once = once-none (lines_of c.args.text.now) c.args.notes.now c.requires.1.1.1.1.1.0; notes = notes-none (lines_of c.args.text.now) c.args.paths.now c.args.notes.now c.requires.1.1.1.1.1.0 }

pub loop-i-init : goal.loop-i-init
loop-i-init c =
    let a = c.args in
    let z = c.requires.1.1 in
    (note-start a.own.now a.text.now a.paths.now a.near.now a.far.now a.stores.now a.notes.now (sym c.ends_lf.ensures ∙ c.if-not-ends_lf.false) c.requires.1.0 z.0 z.1.0 z.1.1.0 z.1.1.1.0, (refl, (refl, (refl, refl))))

pub row_of-k-requires : goal.row_of-k-requires
row_of-k-requires c = note-row c.loop-i.invariant.0 c.loop-i-test.true c.requires.0

pub start_at-a-requires : goal.start_at-a-requires
start_at-a-requires c =
    let v = c.loop-i.invariant.0 in
    (note-lf v c.loop-i-test.true, (note-count v c.loop-i-test.true c.requires.0 c.row_of-k.result c.row_of-k.ensures, c.requires.1.1.1.1.1.1))

pub slice_bounds-line-count : goal.slice_bounds-line-count
slice_bounds-line-count c = omega (arith, c.start_at-a.ensures.0)

pub slice_bounds-line-start : goal.slice_bounds-line-start
slice_bounds-line-start c = omega (arith, c.start_at-a.ensures.0)

pub slice_bounds-line-end : goal.slice_bounds-line-end
slice_bounds-line-end c = omega (arith, (note-lf c.loop-i.invariant.0 c.loop-i-test.true).0)

pub line_note-x-requires : goal.line_note-x-requires
line_note-x-requires c = let v = c.loop-i.invariant.0.nexts in (v.wide, v.tall)

pub overflow_add-m : goal.overflow_add-m
overflow_add-m c = omega (arith, c.if-n-gt-LAST_ROW.false, note-row c.loop-i.invariant.0 c.loop-i-test.true c.requires.0)

pub note_line-requires : goal.note_line-requires
note_line-requires c = let v = c.loop-i.invariant.0.nexts in (v.wide, v.tall)

pub loop-i-smaller : goal.loop-i-smaller
loop-i-smaller c = let l = c.loop-i in omega (arith, c.start_at-a.ensures.0, c.loop-i-test.true)

pub loop-i-preserved : goal.loop-i-preserved
loop-i-preserved c =
    let a = c.args in
    let l = c.loop-i in
    let r = c.note_line.ensures in
    let w : List ℕ = part c.start_at-a.result (l.i - 1) a.text.now in
    let z = l.invariant.1 in
    let y = note-lengths a.own.now (length a.paths.now) l.h (l.m + 1) c.line_note-x.result l.near l.far l.stores _ c.parse-p.result w r.rows r.stores in
    (note-on l.invariant.0 c.loop-i-test.true c.start_at-a.result c.start_at-a.ensures c.requires.0 w c.parse-p.result c.row_of-k.result c.line_note-x.result _ _ _ _ _ c.head_at-h.result refl c.parse-p.ensures c.row_of-k.ensures c.line_note-x.ensures c.put_note.ensures r.rows r.stores c.head_at-h.ensures, (y.0 ∙ z.0, (y.1.0 ∙ z.1.0, (y.1.1.0 ∙ z.1.1.0, y.1.1.1 ∙ ap length c.put_note.ensures ∙ length-set l.notes _ _ ∙ z.1.1.1))))

pub shape_of-near : goal.shape_of-near
shape_of-near c = c.loop-i.invariant.1.0

pub shape_of-far : goal.shape_of-far
shape_of-far c = c.loop-i.invariant.1.1.0

pub shape_of-stores : goal.shape_of-stores
shape_of-stores c = c.loop-i.invariant.1.1.1.0

pub shape_of-notes : goal.shape_of-notes
shape_of-notes c = c.loop-i.invariant.1.1.1.1

pub returns : goal.returns
returns c =
    let v = c.loop-i.invariant.0 in
    record { once = ones-of v c.loop-i-test.false; notes = v.noted }
