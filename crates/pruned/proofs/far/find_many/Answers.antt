use native.Mathlib.Omega.{arith}
use mathlib.Core.Path.{◌∙◌}
use Rattle.lines.proofs.Tests.{so}
use Rattle.pruned.proofs.FarCode.{far-start, far-on}
use Rattle.pruned.proofs.far.find_many.Goals as goal

pub returns-then-s-lt-MANY : goal.returns-then-s-lt-MANY
returns-then-s-lt-MANY c = c.find_byte.ensures

pub loop-j-init : goal.loop-j-init
loop-j-init c = far-start c.args.s.now c.args.b c.args.i

pub loop-j-preserved : goal.loop-j-preserved
loop-j-preserved c = far-on c.loop-j.invariant 240 (omega arith) (so c.lacks.ensures c.if-lacks.true)

pub returns-else-lacks : goal.returns-else-lacks
returns-else-lacks c = c.find_byte-else-lacks.ensures ∙ c.loop-j.invariant.so_far

pub returns : goal.returns
returns c = c.find_byte-2.ensures ∙ c.loop-j.invariant.so_far
