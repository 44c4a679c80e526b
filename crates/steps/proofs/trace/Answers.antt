use mathlib.Core.Path.{sym}
use lib.Seq.{length-take-le}
use Rattle.steps.proofs.Traces.{none-moved}
use Rattle.steps.proofs.trace.Goals as goal

pub slice_bounds-count_standing-end : goal.slice_bounds-count_standing-end
slice_bounds-count_standing-end c = c.requires

pub slice_bounds-count_standing-end-2 : goal.slice_bounds-count_standing-end-2
slice_bounds-count_standing-end-2 c = sym (length-take-le _ _ c.requires)

pub returns-then-s-n : goal.returns-then-s-n
returns-then-s-n c =
    record { answer = c.count_standing-s.ensures; memory = c.wipe.ensures; origins = none-moved c.args.table.now c.args.moves.now c.args.n c.requires c.count_standing-s.ensures c.if-s-n.true }

pub slice_bounds-carry-end : goal.slice_bounds-carry-end
slice_bounds-carry-end c = c.requires

pub slice_bounds-carry-end-2 : goal.slice_bounds-carry-end-2
slice_bounds-carry-end-2 c = sym (length-take-le _ _ c.requires)

pub returns : goal.returns
returns c =
    record { answer = c.count_standing-s.ensures; memory = c.wipe-2.ensures; origins = c.carry.ensures }
