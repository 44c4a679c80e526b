use native.Mathlib.Omega.{arith}
use mathlib.Core.Path.{ap, ◌∙◌}
use Rattle.lines.specs.Inner.Pieces.{pieces_left}
use Rattle.lines.proofs.OutLaws.{wrote-length, writing-length}
use Rattle.decls.proofs.PrintLaws.{left-start, left-room, left-on, left-end-room, left-end}
use Rattle.bind.specs.Inner.Steps.{bound_at, left}
use Rattle.bind.proofs.put_decl.Goals as goal

pub loop-piece-init : goal.loop-piece-init
loop-piece-init c =
    let a = c.args in
    left-start (left (bound_at a.text.now a.s a.blocks.now a.starts.now)) 1 a.indent.now (ap pieces_left c.into_iter-piece-iterator.ensures.into_iter_gives ∙ c.pieces-piece-items.ensures) a.out.now a.o c.requires.1

pub is_left-l-requires : goal.is_left-l-requires
is_left-l-requires c = c.requires.0

pub put_part-p-requires : goal.put_part-p-requires
put_part-p-requires c =
    let t = c.trim-t in
    let b = c.is_left-l in
    left-room c.loop-piece.invariant c.in-Some.ensures.steps t.result.now t.ensures.0 b.result b.ensures

pub loop-piece-preserved : goal.loop-piece-preserved
loop-piece-preserved c =
    let t = c.trim-t in
    let b = c.is_left-l in
    left-on c.loop-piece.invariant c.in-Some.ensures.steps t.result.now t.ensures.0 b.result b.ensures c.put_part-p.ensures

pub put_end-requires : goal.put_end-requires
put_end-requires c = left-end-room c.loop-piece.invariant c.in-None.ensures.steps.0

pub shape_of-out : goal.shape_of-out
shape_of-out c = omega (arith, writing-length c.loop-piece.invariant.writing, wrote-length c.put_end.ensures)

pub returns : goal.returns
returns c = left-end c.loop-piece.invariant c.in-None.ensures.steps.0 c.put_end.ensures
