use Rattle.std.proofs.Common.{◌≡◌, drop}
use Rattle.temps.specs.Inner.Table.{any_flag}
use Rattle.temps.proofs.table.any_flag.Given as goal

abbrev pub invariant-loop-x : goal.invariant-loop-x
invariant-loop-x l = any_flag (drop l.x-index l.table) ≡ any_flag l.table
