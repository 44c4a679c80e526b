use Rattle.temps.specs.Inner.Table.{flag_lines}
use Rattle.temps.proofs.TableLaws.{FlagInv}
use Rattle.lines.proofs.EachLaws.{Over}
use Rattle.temps.proofs.table.flag_lines.Given as goal

abbrev pub invariant-loop-line : goal.invariant-loop-line
invariant-loop-line l = let it = l.line-iterator in Over l.text it × (FlagInv (flag_lines l.own) l.text l.initial.table l.table it.at)
