use Rattle.std.proofs.Common.{◌≡◌, ◌+◌, drop}
use Rattle.parse.specs.Inner.Parse.{digits_len}
use Rattle.parse.proofs.digits_end.Given as goal

abbrev pub invariant-loop-j : goal.invariant-loop-j
invariant-loop-j l = l.j + digits_len (drop l.j l.s) ≡ l.i + digits_len (drop l.i l.s)
