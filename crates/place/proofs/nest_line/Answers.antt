use Rattle.place.specs.Inner.Loops.{nest_line}
use Rattle.place.proofs.nest_line.Goals as goal

pub returns : goal.returns
unfolding nest_line
returns c = cc (c.nest_close.ensures, c.count_byte.ensures, c.nest_open-x.ensures)
