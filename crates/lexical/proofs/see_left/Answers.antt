use Rattle.lexical.specs.Inner.Phi.{sees_all}
use Rattle.lexical.proofs.see_left.Goals as goal

pub returns-in-Kept : goal.returns-in-Kept
unfolding sees_all
returns-in-Kept c = rw c.in-Kept.is c.see.ensures

pub returns-in-Literal : goal.returns-in-Literal
unfolding sees_all
returns-in-Literal c = rw c.in-Literal.is c.see-in-Literal.ensures

pub returns-in-Gone : goal.returns-in-Gone
unfolding sees_all
returns-in-Gone c = rw c.in-Gone.is
