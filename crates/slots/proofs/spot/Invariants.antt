use Rattle.std.proofs.Common.{◌≡◌, ◌+◌, ◌-◌}
use Rattle.slots.specs.Inner.Slots.{spot, spot_go}
use Rattle.slots.proofs.spot.Given as goal

abbrev pub invariant-loop-k : goal.invariant-loop-k
invariant-loop-k l = spot l.own l.v ≡ spot_go (32 - l.k) l.own (l.home + l.k) l.v
