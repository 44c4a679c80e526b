use native.Mathlib.Omega.{arith}
use mathlib.Core.Path.{◌≡◌}
use lib.ListN.{length}
use Rattle.lines.proofs.OutLaws.{put-start, put_in, put-end, wrote-length}
use Rattle.bind.proofs.Moves.{moves-many, moves-on}
use Rattle.bind.proofs.moves_of.Goals as goal

pub loop-i-init : goal.loop-i-init
loop-i-init c = put-start _ _ 0 (omega (arith, moves-many c.args.marks.now, c.requires))

pub bounds-marks-i : goal.bounds-marks-i
bounds-marks-i c = omega (arith, c.loop-i-test.true)

pub bounds-moves-i : goal.bounds-moves-i
bounds-moves-i c = put_in c.loop-i.invariant (omega (arith, moves-many c.args.marks.now, c.loop-i-test.true))

pub loop-i-preserved : goal.loop-i-preserved
loop-i-preserved c = moves-on c.args.marks.now c.loop-i.invariant c.loop-i-test.true c.move_at.result c.move_at.ensures

pub shape_of-moves : goal.shape_of-moves
shape_of-moves c = wrote-length c.loop-i.invariant.wrote

pub returns : goal.returns
returns c =
    let e : length c.args.marks.now ≡ c.loop-i.i = omega arith in
    rw e (put-end c.loop-i.invariant (omega (arith, moves-many c.args.marks.now, c.loop-i-test.false)))
