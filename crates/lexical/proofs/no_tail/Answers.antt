use mathlib.Core.Path.{refl}
use Rattle.text.specs.Trim.{end_white, to_of}
use Rattle.lexical.specs.Lex.{last_of}
use Rattle.lexical.specs.Inner.Lex.{tail_of}
use Rattle.lexical.proofs.no_tail.Goals as goal

pub returns : goal.returns
unfolding tail_of last_of to_of end_white
returns c = refl
