use mathlib.Core.Path.{sym, ◌∙◌}
use Rattle.text.proofs.Whites.{tail-ascii}
use Rattle.text.proofs.white_before.Goals as goal

pub returns-then-c-lt128 : goal.returns-then-c-lt128
returns-then-c-lt128 c = c.white_ascii.ensures ∙ sym (tail-ascii _ _ _ c.requires.0 c.requires.1 c.back-c.ensures c.if-c-lt128.true)
