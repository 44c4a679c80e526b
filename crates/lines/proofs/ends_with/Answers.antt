use Rattle.std.proofs.Common.{sym, ◌∙◌}
use Rattle.lines.proofs.Compare.{suffix-short, suffix-long}
use Rattle.lines.proofs.ends_with.Goals as goal

pub returns-then-s-p : goal.returns-then-s-p
returns-then-s-p c = sym (suffix-short _ _ c.if-s-p.true)

pub returns : goal.returns
returns c = c.starts_with.ensures ∙ suffix-long _ _ c.if-s-p.false
