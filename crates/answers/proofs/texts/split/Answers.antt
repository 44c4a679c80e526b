use native.Mathlib.Omega.{arith}
use Rattle.lines.proofs.StepLaws.{split-room}
use Rattle.answers.proofs.texts.split.Goals as goal

pub split_lines-requires : goal.split_lines-requires
split_lines-requires c = omega (arith, split-room c.args.a.now)
