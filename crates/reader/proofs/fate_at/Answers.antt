use native.Mathlib.Omega.{arith}
use Rattle.origins.specs.Form.{form_shape}
use Rattle.reader.proofs.Laws.{fate-is}
use Rattle.reader.proofs.fate_at.Goals as goal

pub bounds-s-o : goal.bounds-s-o
bounds-s-o c = omega (arith, c.requires, c.width_of-w.ensures)

pub returns : goal.returns
returns c = fate-is (form_shape c.args.f) c.args.s.now c.args.o _ c.width_of-w.ensures
