use Rattle.lines.proofs.OutLaws.{wrote-byte}
use Rattle.lines.proofs.put_byte.Goals as goal

pub returns : goal.returns
returns c = wrote-byte c.args.out.now c.args.o c.args.b c.requires
