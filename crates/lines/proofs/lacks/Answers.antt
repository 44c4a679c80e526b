use Rattle.std.proofs.Common.{not, ap, ◌∙◌}
use Rattle.lines.proofs.Chains.{lacks_is_none}
use Rattle.lines.proofs.lacks.Goals as goal

pub returns : goal.returns
returns c = ap not c.contains.ensures.value ∙ lacks_is_none c.args.b c.args.s.now
