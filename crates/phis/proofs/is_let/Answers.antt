use mathlib.Core.Path.{sym}
use Rattle.lines.proofs.Tests.{so}
use Rattle.phis.proofs.Lines.{let-short, let-other, let-ends}
use Rattle.phis.proofs.is_let.Goals as goal

pub returns-then-n-le4 : goal.returns-then-n-le4
returns-then-n-le4 c = sym (let-short c.args.t.now c.if-n-le4.true)

pub returns-then-not-starts_with : goal.returns-then-not-starts_with
returns-then-not-starts_with c = sym (let-other c.args.t.now (so c.starts_with.ensures c.if-not-starts_with.true))

pub returns : goal.returns
returns c = sym (let-ends c.args.t.now c.if-n-le4.false (so c.starts_with.ensures c.if-not-starts_with.false))
