use native.Mathlib.Omega.{arith}
use Rattle.lines.proofs.OutLaws.{writing-length}
use Rattle.engines.proofs.EngineLaws.{goes-start, goes-place, goes_on, goes_end}
use Rattle.engines.proofs.keep_goes.Goals as goal

pub loop-k-init : goal.loop-k-init
loop-k-init c = goes-start c.args.marks.now c.args.n c.requires

pub bounds-marks-k : goal.bounds-marks-k
bounds-marks-k c = goes-place c.loop-k.invariant c.loop-k-test.true

pub bounds-marks-k-in-loop-k : goal.bounds-marks-k-in-loop-k
bounds-marks-k-in-loop-k c = goes-place c.loop-k.invariant c.loop-k-test.true

pub loop-k-preserved : goal.loop-k-preserved
loop-k-preserved c = goes_on c.loop-k.invariant c.loop-k-test.true c.flag.result c.flag.ensures

pub shape_of-marks : goal.shape_of-marks
shape_of-marks c = writing-length c.loop-k.invariant.writing

pub returns : goal.returns
returns c = goes_end c.loop-k.invariant c.loop-k-test.false
