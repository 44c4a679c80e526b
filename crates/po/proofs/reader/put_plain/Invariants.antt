use Rattle.lines.proofs.OutLaws.{Writing}
use Rattle.po.specs.Found.{decoded}
use Rattle.po.proofs.reader.put_plain.Given as goal

abbrev pub invariant-loop-b : goal.invariant-loop-b
invariant-loop-b l = let it = l.b-iterator in Writing l.o (decoded l.s l.q) (decoded it.rest.now it.quote) l.initial.out l.out l.p
