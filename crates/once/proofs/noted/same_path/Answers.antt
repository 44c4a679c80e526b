use Rattle.once.proofs.NextLaws.{same-past, same_in}
use Rattle.once.proofs.noted.same_path.Goals as goal

pub returns-then-n-t : goal.returns-then-n-t
returns-then-n-t c = let a = c.args in same-past a.paths.now a.k a.s c.if-n-t.true

pub returns : goal.returns
returns c = let a = c.args in same_in a.paths.now a.k a.s _ _ c.if-n-t.false c.entry.ensures c.entry-2.ensures
