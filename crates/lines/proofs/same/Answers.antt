use Rattle.std.proofs.Common.{sym, ◌∙◌}
use Rattle.lines.proofs.Compare.{same-long, same-short}
use Rattle.lines.proofs.same.Goals as goal

pub returns-then-s-t : goal.returns-then-s-t
returns-then-s-t c = sym (same-short _ _ c.if-s-t.true)

pub returns : goal.returns
returns c = c.starts_with.ensures ∙ same-long _ _ c.if-s-t.false
