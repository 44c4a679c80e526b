use mathlib.Core.Path.{ap}
use Rattle.text.specs.Trim.{end_white, to_of}
use Rattle.lexical.specs.Lex.{last_of}
use Rattle.lexical.specs.Inner.Lex.{tail_of}
use Rattle.po.specs.Inner.Walk.{cursor_at}
use Rattle.po.proofs.line_from.Goals as goal

pub returns : goal.returns
unfolding tail_of last_of to_of end_white
returns c = ap (cursor_at c.args.line c.args.i) c.find_byte-end.ensures
