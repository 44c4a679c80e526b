use Rattle.std.proofs.Common.{◌≡◌, ◌+◌, length}
use Rattle.po.specs.Found.{decoded}
use Rattle.po.specs.Form.{escaped}
use Rattle.po.proofs.text_len.Given as goal

abbrev pub invariant-loop-b : goal.invariant-loop-b
invariant-loop-b l = let it = l.b-iterator in l.n + length (escaped (decoded it.rest.now it.quote)) ≡ length (escaped (decoded l.s l.q))
