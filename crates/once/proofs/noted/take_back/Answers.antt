use mathlib.Core.Path.{◌∙◌}
use native.Mathlib.Omega.{arith}
use Rattle.once.proofs.NoteFills.{back-past, back-other, back-seven}
use Rattle.once.proofs.noted.take_back.Goals as goal

pub returns-then-n-t : goal.returns-then-n-t
returns-then-n-t c = back-past c.args.n c.args.f c.args.notes.now c.if-n-t.true

pub returns-then-byte_at-ne-NOTE_ALONE : goal.returns-then-byte_at-ne-NOTE_ALONE
returns-then-byte_at-ne-NOTE_ALONE c = back-other c.args.n c.args.f c.args.notes.now (omega (arith, c.if-n-t.false)) _ c.byte_at.ensures c.if-byte_at-ne-NOTE_ALONE.true

pub returns : goal.returns
returns c = c.put_note.ensures ∙ back-seven c.args.n c.args.f c.args.notes.now (omega (arith, c.if-n-t.false)) _ c.byte_at.ensures c.if-byte_at-ne-NOTE_ALONE.false
