use mathlib.Core.Path.{◌∙◌}
use native.Mathlib.Omega.{arith}
use Rattle.origins.specs.Form.{form_shape}
use Rattle.reader.proofs.Laws.{out-is}
use Rattle.reader.proofs.out_at.Goals as goal

pub overflow_add-o-2 : goal.overflow_add-o-2
overflow_add-o-2 c = omega (arith, c.requires, c.width_of-w.ensures)

pub number_at-requires : goal.number_at-requires
number_at-requires c = omega (arith, c.requires, c.width_of-w.ensures)

pub returns : goal.returns
returns c = c.number_at.ensures ∙ out-is (form_shape c.args.f) c.args.s.now c.args.o _ c.width_of-w.ensures
