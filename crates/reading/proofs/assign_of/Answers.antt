use Prim.Native.Nat.{◌-◌}
use native.Mathlib.Omega.{arith}
use mathlib.Core.Path.{sym, ◌∙◌}
use lib.ListN.{length}
use lib.Seq.{length-take-le}
use Rattle.reading.proofs.AssignLaws.{assign-none, assign-open, assign-sides}
use Rattle.reading.proofs.assign_of.Goals as goal

pub returns-then-n-eq0 : goal.returns-then-n-eq0
returns-then-n-eq0 c = sym (assign-none _ c.if-n-eq0.true)

pub returns-then-t-n-ne59 : goal.returns-then-t-n-ne59
returns-then-t-n-ne59 c = sym (assign-open c.args.t.now c.if-t-n-ne59.true)

pub slice_bounds-sides_of-length : goal.slice_bounds-sides_of-length
slice_bounds-sides_of-length c = let t = c.args.t.now in sym (length-take-le (length t - 1) t (omega arith))

pub returns : goal.returns
returns c = let t = c.args.t.now in c.sides_of.ensures ∙ sym (assign-sides t c.if-t-n-ne59.false)
