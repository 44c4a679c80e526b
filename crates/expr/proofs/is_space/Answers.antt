use mathlib.Core.Path.{sym, ◌∙◌}
use Rattle.expr.proofs.SpaceLaws.{space-high, space-low}
use Rattle.expr.proofs.is_space.Goals as goal

pub returns-then-b-gt127 : goal.returns-then-b-gt127
returns-then-b-gt127 c = sym (space-high c.args.b c.if-b-gt127.true)

pub returns : goal.returns
returns c = c.is_white.ensures ∙ sym (space-low c.args.b c.if-b-gt127.false)
