use Rattle.place.proofs.Walks.{by-blank, by_last}
use Rattle.place.proofs.starts_after.Goals as goal

pub returns-then-last-eq256 : goal.returns-then-last-eq256
returns-then-last-eq256 c = by-blank c.args.last c.args.st c.if-last-eq256.true

pub returns : goal.returns
returns c = by_last c.args.last c.args.st c.if-last-eq256.false
