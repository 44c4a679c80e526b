use native.Mathlib.Omega.{arith}
use mathlib.Core.Path.{ap, ◌∙◌}
use Rattle.lines.specs.Inner.Pieces.{pieces_left}
use Rattle.bind.proofs.IndexLaws.{see-start, see-on, see-end}
use Rattle.bind.proofs.index.see_pieces.Goals as goal

pub loop-piece-init : goal.loop-piece-init
loop-piece-init c = let a = c.args in see-start a.own.now a.m a.b a.seen.now a.first.now (ap pieces_left c.into_iter-piece-iterator.ensures.into_iter_gives ∙ c.pieces-piece-items.ensures)

pub see_name-requires : goal.see_name-requires
see_name-requires c = omega (arith, c.requires, c.loop-piece.invariant.long-d, c.loop-piece.invariant.long-u)

pub loop-piece-preserved : goal.loop-piece-preserved
loop-piece-preserved c = let s = c.see_name.ensures in see-on _ c.loop-piece.invariant c.in-Some.ensures.steps c.trim.result.now c.trim.ensures.0 s.marked s.again

pub shape_of-seen : goal.shape_of-seen
shape_of-seen c = c.loop-piece.invariant.long-d

pub shape_of-first : goal.shape_of-first
shape_of-first c = c.loop-piece.invariant.long-u

pub returns : goal.returns
returns c = let whole = see-end _ c.loop-piece.invariant c.in-None.ensures.steps.0 in record { marked = whole.0; again = whole.1 }
