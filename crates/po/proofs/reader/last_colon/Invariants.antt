use Rattle.std.proofs.Common.{◌≡◌, length}
use Rattle.po.specs.Reader.{colon}
use Rattle.po.proofs.reader.last_colon.Given as goal

abbrev pub invariant-loop-e : goal.invariant-loop-e
invariant-loop-e l = colon l.l l.e ≡ colon l.l (length l.l)
