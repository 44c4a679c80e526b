use Prim.Native.Nat.{◌+◌, ◌-◌, ◌<◌}
use mathlib.Core.Path.{◌≡◌}
use lib.ListN.{length, drop}
use Rattle.parse.specs.Inner.Parse.{digits_len}
use Rattle.parse.proofs.digits_to.Given as goal

abbrev pub invariant-loop-j : goal.invariant-loop-j
invariant-loop-j l = (l.j < length l.t) × (l.j + digits_len (drop l.j l.t) ≡ l.i + digits_len (drop l.i l.t))

abbrev pub decreases-loop-j : goal.decreases-loop-j
decreases-loop-j l = length l.t - l.j
