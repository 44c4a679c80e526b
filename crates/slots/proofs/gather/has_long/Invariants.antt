use Rattle.std.proofs.Common.{◌≡◌, ◌||◌, ltb, drop}
use Rattle.slots.specs.Inner.Gather.{has_long}
use Rattle.slots.proofs.gather.has_long.Given as goal

abbrev pub invariant-loop-i : goal.invariant-loop-i
invariant-loop-i l = ltb l.least 10 || has_long (drop l.i l.text) ≡ has_long l.text
