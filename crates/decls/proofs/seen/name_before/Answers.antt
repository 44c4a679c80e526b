use mathlib.Core.Path.{sym, ◌∙◌}
use Rattle.decls.proofs.MarkRuns.{before-is}
use Rattle.decls.proofs.seen.name_before.Goals as goal

pub returns : goal.returns
returns c = let a = c.args in c.is_name_byte.ensures ∙ sym (before-is a.s.now a.i c.byte_at.result c.if-i-eq0.false c.byte_at.ensures)
