use Rattle.pruned.proofs.FitCode.{digits-by}
use Rattle.pruned.proofs.marks.digits.Goals as goal

pub returns : goal.returns
returns c = let s = c.args in digits-by s.t.now c.cut-y.result.now c.cut.result.now c.skip_zeros.result c.cut-y.ensures c.skip_zeros.ensures c.cut.ensures
