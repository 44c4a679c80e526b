use Rattle.calls.proofs.StepLaws.{byte-told}
use Rattle.calls.proofs.has_byte.Goals as goal

pub returns : goal.returns
returns c = byte-told c.args.b c.args.line.now c.find_byte.result c.find_byte.ensures
