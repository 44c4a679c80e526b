use Rattle.lines.proofs.OutLaws.{Writing}
use Rattle.po.specs.Found.{decoded}
use Rattle.po.specs.Form.{escaped}
use Rattle.po.proofs.put_text.Given as goal

abbrev pub invariant-loop-b : goal.invariant-loop-b
invariant-loop-b l = let it = l.b-iterator in Writing l.o (escaped (decoded l.s l.q)) (escaped (decoded it.rest.now it.quote)) l.initial.out l.out l.p
