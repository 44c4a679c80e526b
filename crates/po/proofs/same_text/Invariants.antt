use Prim.Native.Nat.{◌-◌}
use mathlib.Core.Path.{◌≡◌}
use lib.ListN.{length, drop}
use Rattle.lines.specs.Lf.{same}
use Rattle.po.specs.Found.{decoded}
use Rattle.po.proofs.same_text.Given as goal

abbrev pub invariant-loop-i : goal.invariant-loop-i
invariant-loop-i l = same (decoded (drop l.i l.s) l.q) (decoded (drop l.j l.t) l.p) ≡ same (decoded l.s l.q) (decoded l.t l.p)

abbrev pub decreases-loop-i : goal.decreases-loop-i
decreases-loop-i l = length l.s - l.i
