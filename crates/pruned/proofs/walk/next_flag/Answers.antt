use mathlib.Core.Bool.{◌&&◌}
use Rattle.lines.proofs.Tests.{so}
use Rattle.pruned.specs.Inner.Fit.{may_be_by}
use Rattle.pruned.proofs.WalkCode.{flag-yes, flag-by}
use Rattle.pruned.proofs.walk.next_flag.Goals as goal

pub returns-then-may_go : goal.returns-then-may_go
returns-then-may_go c = let s = c.args in flag-yes (s.was && may_be_by s.line.now s.marks.now s.p.now) _ (so c.may_go.ensures c.if-may_go.true)

pub returns : goal.returns
returns c = flag-by _ _ _ (so c.may_go.ensures c.if-may_go.false) c.may_be.ensures
