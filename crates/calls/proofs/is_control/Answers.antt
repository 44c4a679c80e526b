use Rattle.lines.proofs.Tests.{so}
use Rattle.calls.proofs.Signs.{control-not}
use Rattle.calls.proofs.is_control.Goals as goal

pub returns-then-not-may_control : goal.returns-then-not-may_control
returns-then-not-may_control c = control-not _ (so c.may_control.ensures c.if-not-may_control.true)
