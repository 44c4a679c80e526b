use mathlib.Core.Path.{refl, ◌∙◌}
use native.Mathlib.Omega.{arith}
use Rattle.text.specs.Trim.{to_of}
use Rattle.text.proofs.Trims.{back-space}
use Rattle.text.proofs.spaces_back.Goals as goal

pub loop-e-init : goal.loop-e-init
unfolding to_of
loop-e-init c = refl

pub loop-e-preserved : goal.loop-e-preserved
loop-e-preserved c = let l = c.loop-e in l.invariant ∙ back-space c.args.s.now l.e c.loop-e-test.true (omega arith) c.if-s-e-ne32.false
