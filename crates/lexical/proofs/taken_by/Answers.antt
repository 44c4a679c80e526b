use native.Mathlib.Omega.{arith}
use Rattle.lexical.specs.Joined.{taken}
use Rattle.lexical.proofs.taken_by.Goals as goal

pub returns-in-Nothing : goal.returns-in-Nothing
unfolding taken
returns-in-Nothing c = rw c.in-Nothing.is

pub returns-in-Comment : goal.returns-in-Comment
unfolding taken
returns-in-Comment c = rw c.in-Comment.is (omega (arith, c.comment_end.ensures))

pub returns-in-Template : goal.returns-in-Template
unfolding taken
returns-in-Template c = rw c.in-Template.is (omega (arith, c.quote_end.ensures))
