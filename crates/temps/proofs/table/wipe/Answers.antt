use Rattle.std.proofs.Common.{ℕ, rules}
use lib.ListN.{length-replicate}
use Rattle.lines.proofs.OutLaws.{wrote-whole}
use Rattle.temps.proofs.table.wipe.Goals as goal

-- src/table.rt:58:5

pub wipe-requires : goal.wipe-requires
wipe-requires c = search rules

-- src/table.rt:59:5

pub wipe-requires-2 : goal.wipe-requires-2
wipe-requires-2 c = search rules

-- src/table.rt:60:5

pub wipe-requires-3 : goal.wipe-requires-3
wipe-requires-3 c = search rules

-- src/table.rt:54:1

pub shape_of-own : goal.shape_of-own
shape_of-own c = search rules

-- src/table.rt:54:1

pub shape_of-declared : goal.shape_of-declared
shape_of-declared c = search rules

-- src/table.rt:54:1

pub shape_of-read : goal.shape_of-read
shape_of-read c = search rules

-- src/table.rt:54:1

pub returns : goal.returns
returns c = (c.wipe.ensures, (wrote-whole c.wipe-2.ensures (length-replicate {A = ℕ} _ 0), wrote-whole c.wipe-3.ensures (length-replicate {A = ℕ} _ 0)))
