use mathlib.Core.Path.{◌∙◌}
use native.Mathlib.Omega.{arith}
use Rattle.origins.specs.Form.{form_shape}
use Rattle.reader.proofs.Laws.{line-is}
use Rattle.reader.proofs.line_at.Goals as goal

pub overflow_add-o : goal.overflow_add-o
overflow_add-o c = omega (arith, c.requires)

pub number_at-requires : goal.number_at-requires
number_at-requires c = omega (arith, c.requires)

pub returns : goal.returns
returns c = c.number_at.ensures ∙ line-is (form_shape c.args.f) c.args.s.now c.args.o
