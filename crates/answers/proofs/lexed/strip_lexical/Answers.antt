use native.Mathlib.Omega.{arith}
use Rattle.lexical.proofs.LexLaws.{strip-length}
use Rattle.answers.proofs.lexed.strip_lexical.Goals as goal

pub strip_lexical-requires : goal.strip_lexical-requires
strip_lexical-requires c = omega (arith, strip-length c.args.a.now)
