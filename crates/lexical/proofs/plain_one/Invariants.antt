use Rattle.std.proofs.Common.{◌≡◌}
use Rattle.lexical.specs.Inner.Plain.{plain_len}
use Rattle.lexical.proofs.EndLaws.{ends}
use Rattle.lexical.proofs.plain_one.Given as goal

abbrev pub invariant-loop-j : goal.invariant-loop-j
invariant-loop-j l = ends plain_len l.s l.j ≡ ends plain_len l.s l.i
