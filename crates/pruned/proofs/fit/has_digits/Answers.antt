use Rattle.lines.proofs.Tests.{so}
use Rattle.pruned.proofs.FitCode.{behind-mark, has_no, has-by}
use Rattle.pruned.proofs.fit.has_digits.Goals as goal

pub returns-then-not-starts_with : goal.returns-then-not-starts_with
returns-then-not-starts_with c = has_no c.args.d.now c.cut-v.result.now _ (behind-mark c.args.marks.now c.cut-q.result.now c.cut-v.result.now c.args.g c.cut-q.ensures c.cut-v.ensures) (so c.starts_with.ensures c.if-not-starts_with.true)

pub returns : goal.returns
returns c = has-by c.args.d.now c.cut-v.result.now _ (behind-mark c.args.marks.now c.cut-q.result.now c.cut-v.result.now c.args.g c.cut-q.ensures c.cut-v.ensures) (so c.starts_with.ensures c.if-not-starts_with.false) c.byte_at.result c.byte_at.ensures
