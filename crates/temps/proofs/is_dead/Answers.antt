use Rattle.std.proofs.Common.{not, ap}
use Rattle.lines.proofs.Tests.{so}
use Rattle.temps.proofs.is_dead.Goals as goal

pub is_declared-requires : goal.is_declared-requires
is_declared-requires c = ((c.requires.0, c.key_of-key.ensures), c.requires.1.0)

pub returns-then-not-is_declared : goal.returns-then-not-is_declared
returns-then-not-is_declared c = rw (so c.is_declared.ensures c.if-not-is_declared.true)

pub is_read-requires : goal.is_read-requires
is_read-requires c = ((c.requires.0, (c.key_of-key.ensures, so c.is_declared.ensures c.if-not-is_declared.false)), c.requires.1.1)

pub returns : goal.returns
returns c = rw (so c.is_declared.ensures c.if-not-is_declared.false) (ap not c.is_read.ensures)
