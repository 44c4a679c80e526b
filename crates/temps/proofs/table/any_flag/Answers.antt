use Rattle.std.proofs.Common.{sym, ◌∙◌}
use Rattle.temps.proofs.TableLaws.{any_here, any-on, any-end}
use Rattle.temps.proofs.table.any_flag.Goals as goal

pub returns-then-x-eq1 : goal.returns-then-x-eq1
returns-then-x-eq1 c = sym (any_here _ _ c.loop-x-test.true c.if-x-eq1.true) ∙ c.loop-x.invariant

pub loop-x-preserved : goal.loop-x-preserved
loop-x-preserved c = sym (any-on _ _ c.loop-x-test.true c.if-x-eq1.false) ∙ c.loop-x.invariant

pub returns : goal.returns
returns c = sym (any-end _ _ c.loop-x-test.false) ∙ c.loop-x.invariant
