use mathlib.Core.Path.{sym, ◌∙◌}
use Rattle.bind.proofs.IndexLaws.{ask-none, ask-above, ask-block, ask-start}
use Rattle.bind.proofs.index.ask.Goals as goal

pub returns-then-x-a : goal.returns-then-x-a
returns-then-x-a c = let a = c.args in ask-none a.blocks.now a.starts.now a.a a.k a.x a.y c.if-x-a.true

pub returns-then-y-k : goal.returns-then-y-k
returns-then-y-k c = let a = c.args in ask-above a.blocks.now a.starts.now a.a a.k a.x a.y c.if-x-a.false c.if-y-k.true

pub returns-then-blocks-n : goal.returns-then-blocks-n
returns-then-blocks-n c = let a = c.args in ask-block a.blocks.now a.starts.now a.a a.k a.x a.y c.if-x-a.false c.if-y-k.false (λ e. c.if-blocks-n.true (e ∙ sym c.requires.1))

pub returns : goal.returns
returns c = let a = c.args in ask-start a.blocks.now a.starts.now a.a a.k a.x a.y c.if-x-a.false c.if-y-k.false (c.if-blocks-n.false ∙ c.requires.1)
