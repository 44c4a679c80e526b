use mathlib.Core.Path.{sym, ◌∙◌}
use Rattle.text.proofs.Whites.{head-ascii}
use Rattle.text.proofs.white_at.Goals as goal

pub returns-then-a-lt128 : goal.returns-then-a-lt128
returns-then-a-lt128 c = c.white_ascii.ensures ∙ sym (head-ascii _ _ _ c.requires c.byte-a.ensures c.if-a-lt128.true)
