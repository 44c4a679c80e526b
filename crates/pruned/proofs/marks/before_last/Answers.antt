use Rattle.pruned.proofs.FitCode.{last_one, last-two}
use Rattle.pruned.proofs.marks.before_last.Goals as goal

pub returns-then-d-lt2 : goal.returns-then-d-lt2
returns-then-d-lt2 c = last_one c.args.d.now c.if-d-lt2.true

pub returns : goal.returns
returns c = last-two c.args.d.now c.if-d-lt2.false
