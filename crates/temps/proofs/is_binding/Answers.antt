use Rattle.lines.proofs.Tests.{so}
use Rattle.temps.proofs.is_binding.Goals as goal

pub returns-then-starts_with : goal.returns-then-starts_with
returns-then-starts_with c = rw (so c.starts_with.ensures c.if-starts_with.true)

pub returns-then-starts_with-2 : goal.returns-then-starts_with-2
returns-then-starts_with-2 c = rw (so c.starts_with.ensures c.if-starts_with.false, so c.starts_with-2.ensures c.if-starts_with-2.true)

pub returns : goal.returns
returns c = rw (so c.starts_with.ensures c.if-starts_with.false, so c.starts_with-2.ensures c.if-starts_with-2.false) c.starts_with-3.ensures
