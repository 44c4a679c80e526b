use Rattle.std.proofs.Common.{◌≡◌, ◌<◌}
use Rattle.po.specs.Found.{decoded}
use Rattle.po.specs.Inner.Index.{hash_of}
use Rattle.po.proofs.index.hash_text.Given as goal

abbrev pub invariant-loop-b : goal.invariant-loop-b
invariant-loop-b l = let it = l.b-iterator in (l.h < 4294967291) × (hash_of l.h (decoded it.rest.now it.quote) ≡ hash_of 0 (decoded l.s l.q))
