use native.Mathlib.Omega.{arith}
use Rattle.lines.specs.Lf.{unlines}
use Rattle.po.specs.Form.{escaped}
use Rattle.po.proofs.put_head.Goals as goal

pub put-requires : goal.put-requires
unfolding unlines escaped
put-requires c = omega (arith, c.requires)

pub returns : goal.returns
unfolding unlines escaped
returns c = c.put.ensures
