use Rattle.origins.specs.Form.{form_shape}
use Rattle.reader.specs.Replies.{wents_in}
use Rattle.reader.specs.Inner.Each.{left}
use Rattle.reader.proofs.Laws.{FitInv}
use Rattle.reader.proofs.unfit_at.Given as goal

abbrev pub invariant-loop-i : goal.invariant-loop-i
invariant-loop-i l = let it = l.i-iterator in FitInv (form_shape l.g) (wents_in (form_shape l.fn.f) l.file) it.count (left it.iter)
