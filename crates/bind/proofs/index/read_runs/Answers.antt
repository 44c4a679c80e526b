use native.Mathlib.Omega.{arith}
use mathlib.Core.Path.{refl}
use Rattle.words.proofs.RunLaws.{run_inside}
use Rattle.bind.proofs.IndexLaws.{read-start, read-less, read-on, read-end}
use Rattle.bind.proofs.index.read_runs.Goals as goal

pub loop-i-init : goal.loop-i-init
loop-i-init c = let a = c.args in read-start a.own.now a.b a.s.now a.first.now _ c.reg_start-i.ensures

pub slice_bounds-read_name-count : goal.slice_bounds-read_name-count
slice_bounds-read_name-count c = omega (arith, c.run_end-e.ensures)

pub slice_bounds-read_name-start : goal.slice_bounds-read_name-start
slice_bounds-read_name-start c = omega (arith, c.run_end-e.ensures)

pub slice_bounds-read_name-end : goal.slice_bounds-read_name-end
slice_bounds-read_name-end c = omega (arith, c.run_end-e.ensures, run_inside c.args.s.now c.loop-i.i (omega (arith, c.loop-i-test.true)))

pub loop-i-smaller : goal.loop-i-smaller
loop-i-smaller c = omega (arith, c.loop-i-test.true, read-less c.args.own.now c.args.b c.loop-i.invariant c.loop-i-test.true _ c.run_end-e.ensures _ c.reg_start-i-in-loop-i.ensures)

pub loop-i-preserved : goal.loop-i-preserved
loop-i-preserved c = read-on c.args.own.now c.args.b c.loop-i.invariant c.loop-i-test.true _ c.run_end-e.ensures _ c.reg_start-i-in-loop-i.ensures _ _ refl c.read_name.ensures

pub shape_of-first : goal.shape_of-first
shape_of-first c = c.loop-i.invariant.long

pub returns : goal.returns
returns c = read-end c.args.own.now c.args.b c.loop-i.invariant c.loop-i-test.false
