use Rattle.origins.proofs.TableLaws.{taken-low, taken-high}
use Rattle.origins.proofs.taken_code.Goals as goal

pub returns-then-c-lt-HALF : goal.returns-then-c-lt-HALF
returns-then-c-lt-HALF c = taken-low c.args.c c.if-c-lt-HALF.true

pub returns : goal.returns
returns c = taken-high c.args.c c.if-c-lt-HALF.false
