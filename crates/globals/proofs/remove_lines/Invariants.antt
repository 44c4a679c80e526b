use Rattle.globals.proofs.Laws.{RemoveInv}
use Rattle.lines.proofs.EachLaws.{Over}
use Rattle.globals.proofs.remove_lines.Given as goal

abbrev pub invariant-loop-line : goal.invariant-loop-line
invariant-loop-line l = let it = l.line-iterator in Over l.text it × (RemoveInv l.text l.initial.out l.out l.initial.moves l.moves it.at l.o l.k)
