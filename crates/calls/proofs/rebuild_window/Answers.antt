use mathlib.Core.Path.{sym, ap}
use native.Mathlib.Omega.{arith}
use lib.ListN.{length}
use Rattle.calls.proofs.rebuild_window.Goals as goal

pub window-recs-requires : goal.window-recs-requires
window-recs-requires c = tt

pub slice_bounds-rebuild_lines-end : goal.slice_bounds-rebuild_lines-end
slice_bounds-rebuild_lines-end c = sym (ap length c.window-recs.ensures)

pub rebuild_lines-requires : goal.rebuild_lines-requires
rebuild_lines-requires c = let e = ap length c.window-recs.ensures in (omega (arith, e), c.requires)

pub shape_of-owner : goal.shape_of-owner
shape_of-owner c = c.rebuild_lines.auto.owner

pub shape_of-stack : goal.shape_of-stack
shape_of-stack c = c.rebuild_lines.auto.stack

pub shape_of-cur : goal.shape_of-cur
shape_of-cur c = c.rebuild_lines.auto.cur

pub shape_of-next : goal.shape_of-next
shape_of-next c = c.rebuild_lines.auto.next

pub returns : goal.returns
returns c = c.rebuild_lines.ensures
