use Rattle.lines.proofs.OutLaws.{put-eight}
use Rattle.lines.proofs.put_eight.Goals as goal

pub returns : goal.returns
returns c = let a = c.args in put-eight a.t.now a.out.now a.o a.j c.requires
