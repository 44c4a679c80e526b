use Rattle.std.proofs.Common.{◌≡◌, ◌||◌, ltb, drop}
use Rattle.temps.specs.Inner.Scratch.{temp_in}
use Rattle.temps.proofs.has_temp.Given as goal

abbrev pub invariant-loop-i : goal.invariant-loop-i
invariant-loop-i l = ltb l.least 10 || temp_in (drop l.i l.s) ≡ temp_in l.s
