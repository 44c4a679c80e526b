use mathlib.Core.Path.{sym, ◌∙◌}
use Rattle.lines.proofs.Tests.{and_left, and_right}
use Rattle.lexical.proofs.JoinedLaws.{open_none}
use Rattle.lexical.proofs.open_of.Goals as goal

pub returns-then-lacks : goal.returns-then-lacks
returns-then-lacks c = open_none c.args.s.now (sym c.lacks.ensures ∙ and_left c.lacks.result c.lacks-2.result c.if-lacks.true) (sym c.lacks-2.ensures ∙ and_right c.lacks.result c.lacks-2.result c.if-lacks.true)
