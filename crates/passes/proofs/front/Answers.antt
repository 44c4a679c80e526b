use mathlib.Core.Path.{sym}
use lib.Seq.{length-take-le}
use Rattle.passes.proofs.front.Goals as goal

pub slice_bounds-result-end : goal.slice_bounds-result-end
slice_bounds-result-end c = let a = c.args in sym (length-take-le a.n a.own.now c.if-own-n.false)
