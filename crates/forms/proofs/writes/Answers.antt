use Rattle.forms.proofs.BreaksLaws.{writes-empty}
use Rattle.forms.proofs.writes.Goals as goal

pub returns-then-name-eq0 : goal.returns-then-name-eq0
returns-then-name-eq0 c = rw (c.contains.ensures, c.contains-then-name-eq0.ensures) (writes-empty c.args.name.now c.args.line.now c.if-name-eq0.true)
