use mathlib.Core.Path.{refl, sym, ◌∙◌}
use native.Mathlib.Omega.{arith}
use Rattle.words.proofs.RunLaws.{run_inside}
use Rattle.once.proofs.NoteFills.{reads-start, reads-less, reads_on, reads_end}
use Rattle.once.proofs.noted.note_runs.Goals as goal

pub loop-i-init : goal.loop-i-init
loop-i-init c = reads-start c.args.own.now c.args.n c.args.h c.args.m c.args.s.now (c.args.near.now, (c.args.far.now, c.args.notes.now)) _ c.reg_start-i.ensures

pub slice_bounds-note_name-count : goal.slice_bounds-note_name-count
slice_bounds-note_name-count c = omega (arith, c.run_end-e.ensures)

pub slice_bounds-note_name-start : goal.slice_bounds-note_name-start
slice_bounds-note_name-start c = omega (arith, c.run_end-e.ensures)

pub slice_bounds-note_name-end : goal.slice_bounds-note_name-end
slice_bounds-note_name-end c = omega (arith, c.run_end-e.ensures, run_inside c.args.s.now c.loop-i.i (omega (arith, c.loop-i-test.true)))

pub note_name-requires : goal.note_name-requires
note_name-requires c = c.loop-i.invariant.wide ∙ c.requires ∙ sym c.loop-i.invariant.long

pub loop-i-smaller : goal.loop-i-smaller
loop-i-smaller c = omega (arith, c.loop-i-test.true, reads-less c.args.own.now c.args.n c.args.h c.args.m c.loop-i.invariant c.loop-i-test.true _ c.run_end-e.ensures _ c.reg_start-i-in-loop-i.ensures)

pub loop-i-preserved : goal.loop-i-preserved
loop-i-preserved c =
    let e = c.note_name.ensures in
    reads_on c.args.own.now c.args.n c.args.h c.args.m c.loop-i.invariant c.loop-i-test.true _ c.run_end-e.ensures _ c.reg_start-i-in-loop-i.ensures _ refl _ (rw (e.rows, e.seconds, e.notes))

pub shape_of-near : goal.shape_of-near
shape_of-near c = c.loop-i.invariant.long

pub shape_of-far : goal.shape_of-far
shape_of-far c = c.loop-i.invariant.wide

pub shape_of-notes : goal.shape_of-notes
shape_of-notes c = c.loop-i.invariant.tall

pub returns : goal.returns
returns c = reads_end c.args.own.now c.args.n c.args.h c.args.m c.loop-i.invariant c.loop-i-test.false
