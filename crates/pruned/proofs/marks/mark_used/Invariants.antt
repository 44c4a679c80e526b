use Rattle.lines.proofs.EachLaws.{Over}
use Rattle.decls.proofs.SeenLaws.{TableInv}
use Rattle.pruned.proofs.MarkCode.{MarkInv}
use Rattle.pruned.proofs.marks.mark_used.Given as goal

abbrev pub invariant-loop-line : goal.invariant-loop-line
invariant-loop-line l = let it = l.line-iterator in Over l.raw it × ((MarkInv l.raw l.initial.out l.out l.a it.at l.o) × (TableInv l.own l.raw l.initial.seen l.seen l.a l.b l.m it.at))
