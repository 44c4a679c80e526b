use Prim.Native.Nat.{◌-◌}
use mathlib.Core.Path.{◌≡◌}
use Rattle.bind.specs.Inner.Sites.{stop_by}
use Rattle.bind.proofs.stop_by.Given as goal

abbrev pub invariant-loop-i : goal.invariant-loop-i
invariant-loop-i l = stop_by l.ends l.len (l.n - l.k) l.k l.start ≡ stop_by l.ends l.len (l.n - l.i) l.i l.p
