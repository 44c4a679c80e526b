use borrow.Author.Tests.{eq-eqb, ne_eqb}
use Rattle.bind.proofs.top_at.Goals as goal

pub returns-then-rec-c : goal.returns-then-rec-c
returns-then-rec-c c = let a = c.args in rw (eq-eqb a.rec.region.0 a.c.0 c.if-rec-c.true)

pub returns : goal.returns
returns c = let a = c.args in rw (ne_eqb a.rec.region.0 a.c.0 c.if-rec-c.false)
