use mathlib.Core.Path.{sym, ap, ◌∙◌}
use Rattle.lexical.specs.Joined.{open_of}
use Rattle.lexical.proofs.JoinedLaws.{below-open, below-shut}
use Rattle.lexical.proofs.open_below.Goals as goal

pub returns-then-not-shuts : goal.returns-then-not-shuts
returns-then-not-shuts c = let a = c.args in below-open a.above a.s.now (sym c.shuts.ensures ∙ c.if-not-shuts.true)

pub returns : goal.returns
returns c = let a = c.args in c.open_of.ensures ∙ ap open_of c.rest_of.ensures ∙ below-shut a.above a.s.now (sym c.shuts.ensures ∙ c.if-not-shuts.false)
