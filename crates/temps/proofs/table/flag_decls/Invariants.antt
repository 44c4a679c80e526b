use Rattle.temps.specs.Inner.Table.{flag_decls}
use Rattle.temps.proofs.TableLaws.{FlagInv}
use Rattle.lines.proofs.EachLaws.{Over}
use Rattle.temps.proofs.table.flag_decls.Given as goal

abbrev pub invariant-loop-line : goal.invariant-loop-line
invariant-loop-line l = let it = l.line-iterator in Over l.text it × (FlagInv (flag_decls l.own) l.text l.initial.table l.table it.at)
