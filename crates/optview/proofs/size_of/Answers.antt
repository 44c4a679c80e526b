use Rattle.optview.proofs.Counts.{size-within, size-beyond}
use Rattle.optview.proofs.size_of.Goals as goal

pub returns-then-n-le-LINES : goal.returns-then-n-le-LINES
returns-then-n-le-LINES c = size-within c.args.n c.if-n-le-LINES.true

pub returns-else-n-le-LINES : goal.returns-else-n-le-LINES
returns-else-n-le-LINES c = size-beyond c.args.n c.if-n-le-LINES.false
