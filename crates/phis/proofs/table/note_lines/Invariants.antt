use Rattle.phis.proofs.TableLaws.{LinesInv}
use Rattle.lines.proofs.EachLaws.{Over}
use Rattle.phis.proofs.table.note_lines.Given as goal

abbrev pub invariant-loop-line : goal.invariant-loop-line
invariant-loop-line l = let it = l.line-iterator in Over l.text it × (LinesInv l.own l.text l.initial.table l.table it.at)
