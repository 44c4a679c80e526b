use mathlib.Core.Path.{sym, ◌∙◌}
use native.Mathlib.Omega.{arith}
use Rattle.once.proofs.CalmLaws.{calm-start, calm-block, calm-found}
use Rattle.once.proofs.calm_len.Goals as goal

pub loop-i-init : goal.loop-i-init
loop-i-init c = (omega arith, calm-start c.args.text.now)

pub returns-then-not-lacks : goal.returns-then-not-lacks
returns-then-not-lacks c = calm-found c.args.text.now c.loop-i.i c.loop-i.invariant.0 c.loop-i.invariant.1

pub loop-i-preserved : goal.loop-i-preserved
loop-i-preserved c = (omega arith, calm-block c.args.text.now 32 c.loop-i.i (omega arith) (sym c.lacks.ensures ∙ c.if-not-lacks.false) c.loop-i.invariant.1)

pub returns : goal.returns
returns c = calm-found c.args.text.now c.loop-i.i c.loop-i.invariant.0 c.loop-i.invariant.1
