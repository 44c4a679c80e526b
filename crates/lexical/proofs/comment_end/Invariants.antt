use Rattle.std.proofs.Common.{◌≡◌}
use Rattle.lexical.specs.Lex.{comment_len}
use Rattle.lexical.proofs.EndLaws.{ends}
use Rattle.lexical.proofs.comment_end.Given as goal

abbrev pub invariant-loop-j : goal.invariant-loop-j
invariant-loop-j l = ends comment_len l.s l.j ≡ ends comment_len l.s l.i
