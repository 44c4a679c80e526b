use mathlib.Core.Path.{sym, ap}
use native.Mathlib.Omega.{arith}
use lib.ListN.{length}
use Rattle.bind.proofs.walk_window.Goals as goal

pub window-recs-requires : goal.window-recs-requires
window-recs-requires c = tt

pub slice_bounds-walk_lines-end : goal.slice_bounds-walk_lines-end
slice_bounds-walk_lines-end c = sym (ap length c.window-recs.ensures)

pub walk_lines-requires : goal.walk_lines-requires
walk_lines-requires c = let e = ap length c.window-recs.ensures in (omega (arith, e), c.requires)

pub shape_of-seen : goal.shape_of-seen
shape_of-seen c = c.walk_lines.auto.seen

pub shape_of-first : goal.shape_of-first
shape_of-first c = c.walk_lines.auto.first

pub shape_of-marks : goal.shape_of-marks
shape_of-marks c = c.walk_lines.auto.marks

pub shape_of-out : goal.shape_of-out
shape_of-out c = c.walk_lines.auto.out

pub returns : goal.returns
returns c =
    let whole = c.walk_lines.ensures in
    record { answer = whole.answer; memory = whole.memory }
