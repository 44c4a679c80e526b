use mathlib.Core.Path.{ap, ◌∙◌}
use Rattle.lines.specs.Inner.Pieces.{pieces_left}
use Rattle.lines.specs.Lf.{lines_of}
use Rattle.names.specs.Names.{reg_of}
use Rattle.decls.proofs.SeenLaws.{seen-stays}
use Rattle.pruned.proofs.MarkCode.{names-start, names-room, names-zeros, names-on, names-end}
use Rattle.pruned.proofs.marks.put_names.Goals as goal

pub loop-piece-init : goal.loop-piece-init
loop-piece-init c = names-start (lines_of c.args.region.now) c.args.out.now c.args.o (ap pieces_left c.into_iter-piece-iterator.ensures.into_iter_gives ∙ c.pieces-piece-items.ensures) c.requires.1

pub put_byte-p-requires : goal.put_byte-p-requires
put_byte-p-requires c = names-room c.loop-piece.invariant c.in-Some.ensures.steps c.trim-t.result.now c.trim-t.ensures.0 c.stays_in-s.result (c.stays_in-s.ensures ∙ seen-stays _ _ _ _ c.requires.0 (reg_of c.trim-t.result.now)) c.digits-d.result.now c.digits-d.ensures c.mark_of.result c.mark_of.ensures

pub put_filled-p-requires : goal.put_filled-p-requires
put_filled-p-requires c = names-zeros c.loop-piece.invariant c.in-Some.ensures.steps c.trim-t.result.now c.trim-t.ensures.0 c.stays_in-s.result (c.stays_in-s.ensures ∙ seen-stays _ _ _ _ c.requires.0 (reg_of c.trim-t.result.now)) c.digits-d.result.now c.digits-d.ensures c.mark_of.result c.mark_of.ensures c.put_byte-p.ensures

pub loop-piece-preserved : goal.loop-piece-preserved
loop-piece-preserved c = names-on c.loop-piece.invariant c.in-Some.ensures.steps c.trim-t.result.now c.trim-t.ensures.0 c.stays_in-s.result (c.stays_in-s.ensures ∙ seen-stays _ _ _ _ c.requires.0 (reg_of c.trim-t.result.now)) c.digits-d.result.now c.digits-d.ensures c.mark_of.result c.mark_of.ensures c.put_byte-p.ensures c.put_filled-p.ensures

pub returns : goal.returns
returns c = names-end c.loop-piece.invariant c.in-None.ensures.steps.0
