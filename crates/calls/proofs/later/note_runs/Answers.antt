use mathlib.Core.Path.{refl}
use native.Mathlib.Omega.{arith}
use Rattle.words.proofs.RunLaws.{run_inside}
use Rattle.calls.proofs.Notes.{reads-start, reads-less, reads_on, reads_end}
use Rattle.calls.proofs.later.note_runs.Goals as goal

pub loop-i-init : goal.loop-i-init
loop-i-init c = reads-start c.args.own.now c.args.c c.args.h c.args.s.now c.args.near.now _ c.reg_start-i.ensures

pub slice_bounds-note_name-count : goal.slice_bounds-note_name-count
slice_bounds-note_name-count c = omega (arith, c.run_end-e.ensures)

pub slice_bounds-note_name-start : goal.slice_bounds-note_name-start
slice_bounds-note_name-start c = omega (arith, c.run_end-e.ensures)

pub slice_bounds-note_name-end : goal.slice_bounds-note_name-end
slice_bounds-note_name-end c = omega (arith, c.run_end-e.ensures, run_inside c.args.s.now c.loop-i.i (omega (arith, c.loop-i-test.true)))

pub loop-i-smaller : goal.loop-i-smaller
loop-i-smaller c = omega (arith, c.loop-i-test.true, reads-less c.args.own.now c.args.c c.args.h c.loop-i.invariant c.loop-i-test.true _ c.run_end-e.ensures _ c.reg_start-i-in-loop-i.ensures)

pub loop-i-preserved : goal.loop-i-preserved
loop-i-preserved c = reads_on c.args.own.now c.args.c c.args.h c.loop-i.invariant c.loop-i-test.true _ c.run_end-e.ensures _ c.reg_start-i-in-loop-i.ensures _ refl _ c.note_name.ensures

pub shape_of-near : goal.shape_of-near
shape_of-near c = c.loop-i.invariant.long

pub returns : goal.returns
returns c = reads_end c.args.own.now c.args.c c.args.h c.loop-i.invariant c.loop-i-test.false
