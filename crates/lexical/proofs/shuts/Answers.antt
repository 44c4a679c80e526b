use Rattle.lexical.specs.Joined.{shut_in}
use Rattle.lexical.proofs.shuts.Goals as goal

pub returns-in-Nothing : goal.returns-in-Nothing
unfolding shut_in
returns-in-Nothing c = rw c.in-Nothing.is

pub returns-in-Comment : goal.returns-in-Comment
unfolding shut_in
returns-in-Comment c = rw c.in-Comment.is c.comment_shut.ensures

pub returns-in-Template : goal.returns-in-Template
unfolding shut_in
returns-in-Template c = rw c.in-Template.is c.quote_shut.ensures
