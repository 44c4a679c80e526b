use mathlib.Core.Path.{sym, ◌∙◌}
use Rattle.parse.proofs.PlainLine.{decl-other}
use Rattle.parse.proofs.declares.Goals as goal

pub returns-then-byte_at-ne108 : goal.returns-then-byte_at-ne108
returns-then-byte_at-ne108 c = sym (decl-other c.args.line.now c.trim_from-a.result c.trim_from-a.ensures (λ z. c.if-byte_at-ne108.true (c.byte_at.ensures ∙ z)))
