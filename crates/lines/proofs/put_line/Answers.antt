use Rattle.lines.proofs.OutLaws.{wrote_then}
use Rattle.lines.proofs.put_line.Goals as goal

pub returns : goal.returns
returns c = wrote_then c.put-p.ensures c.put_byte.ensures
