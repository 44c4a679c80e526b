use native.Mathlib.Omega.{arith}
use Rattle.expr.proofs.CommentLaws.{strip-length}
use Rattle.answers.proofs.values.strip_comments.Goals as goal

pub strip_comments-requires : goal.strip_comments-requires
strip_comments-requires c = omega (arith, strip-length c.args.a.now)
