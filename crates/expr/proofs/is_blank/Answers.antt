use Rattle.expr.proofs.SpaceLaws.{blank-by}
use Rattle.expr.proofs.is_blank.Goals as goal

pub returns : goal.returns
returns c = blank-by c.args.s.now c.space_from.result c.space_from.ensures.0 c.space_from.ensures.1
