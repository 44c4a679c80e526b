use Rattle.pruned.proofs.FitCode.{lead-none, lead-some}
use Rattle.pruned.proofs.fit.lead_on.Goals as goal

pub returns-then-k-eq0 : goal.returns-then-k-eq0
returns-then-k-eq0 c = lead-none c.args.c c.args.k c.if-k-eq0.true

pub returns : goal.returns
returns c = lead-some c.args.c c.args.k c.if-k-eq0.false
