use Rattle.reader.proofs.Laws.{form-large, form_small}
use Rattle.reader.proofs.form_of.Goals as goal

pub returns-then-byte_at-eq77 : goal.returns-then-byte_at-eq77
returns-then-byte_at-eq77 c = form-large c.args.file.now _ c.byte_at.ensures c.if-byte_at-eq77.true

pub returns : goal.returns
returns c = form_small c.args.file.now _ c.byte_at.ensures c.if-byte_at-eq77.false
