use native.Mathlib.Omega.{arith}
use mathlib.Core.Path.{sym}
use Rattle.lines.proofs.LfLaws.{short}
use Rattle.place.specs.Region.{function_word}
use Rattle.place.proofs.Regions.{word-front}
use Rattle.place.proofs.begins_function.Goals as goal

pub returns-then-line-lt9 : goal.returns-then-line-lt9
returns-then-line-lt9 c = sym (short function_word c.args.line.now (omega arith))

pub returns : goal.returns
returns c = word-front c.args.line.now (omega arith)
