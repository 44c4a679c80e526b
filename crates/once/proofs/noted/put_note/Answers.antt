use Rattle.decls.proofs.SeenLaws.{set_past}
use Rattle.once.proofs.noted.put_note.Goals as goal

pub returns-then-notes-k : goal.returns-then-notes-k
returns-then-notes-k c = set_past _ _ _ c.if-notes-k.true
