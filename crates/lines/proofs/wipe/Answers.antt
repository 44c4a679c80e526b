use Rattle.lines.proofs.OutLaws.{wiped}
use Rattle.lines.proofs.wipe.Goals as goal

pub returns : goal.returns
returns c = wiped c.args.s.now c.wipe_blocks.new.s c.args.n c.requires c.wipe_blocks.ensures
