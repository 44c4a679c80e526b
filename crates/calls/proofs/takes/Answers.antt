use Rattle.lines.proofs.Tests.{so}
use Rattle.calls.proofs.StepLaws.{takes-start, takes-call, takes-rest}
use Rattle.calls.proofs.takes.Goals as goal

pub returns-then-not-starts : goal.returns-then-not-starts
returns-then-not-starts c = let a = c.args in takes-start a.line.now a.starts c.if-not-starts.true

pub returns-then-not-has_byte : goal.returns-then-not-has_byte
returns-then-not-has_byte c = let a = c.args in takes-call a.line.now a.starts (so c.has_byte.ensures c.if-not-has_byte.true)

pub returns : goal.returns
returns c = let a = c.args in takes-rest a.line.now a.starts c.if-not-starts.false (so c.has_byte.ensures c.if-not-has_byte.false) _ c.trim_start.ensures _ c.is_control.ensures
