use Rattle.bind.proofs.ToldLaws.{ready-as}
use Rattle.bind.proofs.walk_line.Goals as goal

pub read_region-requires : goal.read_region-requires
read_region-requires c = c.requires.0

pub bind_line-requires : goal.bind_line-requires
bind_line-requires c = (ready-as _ c.read_region.ensures.marked c.read_region.ensures.again c.requires.1.0, c.requires.1.1)

pub returns : goal.returns
returns c = record { index = (c.read_region.ensures.marked, c.read_region.ensures.again); answer = c.bind_line.ensures.answer; memory = c.bind_line.ensures.memory }
