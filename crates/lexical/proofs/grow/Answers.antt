use Rattle.lexical.specs.Inner.Lex.{grown}
use Rattle.lexical.proofs.grow.Goals as goal

pub returns-in-Kept : goal.returns-in-Kept
unfolding grown
returns-in-Kept c = rw c.in-Kept.is c.push.ensures

pub returns-in-Literal : goal.returns-in-Literal
unfolding grown
returns-in-Literal c = rw c.in-Literal.is c.push-in-Literal.ensures

pub returns-in-Gone : goal.returns-in-Gone
unfolding grown
returns-in-Gone c = rw c.in-Gone.is
