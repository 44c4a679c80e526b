use Rattle.std.proofs.Common.{◌≡◌, ◌+◌, length}
use Rattle.po.specs.Found.{decoded}
use Rattle.po.proofs.reader.plain_len.Given as goal

abbrev pub invariant-loop : goal.invariant-loop
invariant-loop l = let it = l.iterator' in l.n + length (decoded it.rest.now it.quote) ≡ length (decoded l.s l.q)
