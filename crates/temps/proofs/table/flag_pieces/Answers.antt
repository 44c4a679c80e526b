use Rattle.std.proofs.Common.{ap, ◌∙◌}
use Rattle.lines.specs.Inner.Pieces.{pieces_left}
use Rattle.temps.proofs.TableLaws.{pieces-start, pieces-on, pieces_end}
use Rattle.temps.proofs.table.flag_pieces.Goals as goal

pub loop-piece-init : goal.loop-piece-init
loop-piece-init c = pieces-start _ _ (ap pieces_left c.into_iter-piece-iterator.ensures.into_iter_gives ∙ c.pieces-piece-items.ensures)

pub loop-piece-preserved : goal.loop-piece-preserved
loop-piece-preserved c = pieces-on _ c.loop-piece.invariant c.in-Some.ensures.steps c.trim.ensures.0 c.flag_temp.ensures

pub shape_of-table : goal.shape_of-table
shape_of-table c = c.loop-piece.invariant.long

pub returns : goal.returns
returns c = pieces_end _ c.loop-piece.invariant c.in-None.ensures.steps.0
