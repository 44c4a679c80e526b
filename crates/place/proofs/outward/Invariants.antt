use Prim.Native.Nat.{◌-◌}
use mathlib.Core.Path.{◌≡◌}
use lib.ListN.{take, replicate}
use Rattle.place.specs.Blocks.{closes}
use Rattle.place.specs.Inner.Parents.{cur_by}
use Rattle.place.proofs.outward.Given as goal

abbrev pub invariant-loop : goal.invariant-loop
invariant-loop l = cur_by (replicate (l.k - l.counter) closes) l.b (take l.n l.up) ≡ cur_by (replicate l.k closes) l.c (take l.n l.up)
