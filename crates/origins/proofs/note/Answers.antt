use Rattle.origins.proofs.TableLaws.{note-gone, note-stays}
use Rattle.origins.proofs.note.Goals as goal

pub returns-then-o-p : goal.returns-then-o-p
returns-then-o-p c = note-gone c.args.moves.now c.args.k c.args.o c.args.p c.requires c.if-o-p.true

pub returns : goal.returns
returns c = note-stays c.args.moves.now c.args.k c.args.o c.args.p c.requires c.if-o-p.false
