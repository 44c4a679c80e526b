use Rattle.place.proofs.Regions.{space-head}
use Rattle.place.proofs.is_header.Goals as goal

pub returns-then-byte_at-eq32 : goal.returns-then-byte_at-eq32
returns-then-byte_at-eq32 c = space-head c.args.line.now c.byte_at.result c.byte_at.ensures c.if-byte_at-eq32.true
