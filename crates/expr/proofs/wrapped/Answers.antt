use borrow.Author.Tests.{lt-leb, le-leb}
use Rattle.expr.specs.Pure.{wrapped}
use Rattle.expr.proofs.wrapped.Goals as goal

pub returns-then-n-lt2 : goal.returns-then-n-lt2
unfolding wrapped
returns-then-n-lt2 c = rw (lt-leb 2 _ c.if-n-lt2.true)

pub returns : goal.returns
unfolding wrapped
returns c = rw (le-leb 2 _ c.if-n-lt2.false)
