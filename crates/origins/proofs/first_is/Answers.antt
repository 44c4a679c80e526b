use Rattle.std.proofs.Common.{◌∙◌}
use Rattle.lines.proofs.Chains.{starts_is_prefixed}
use Rattle.origins.proofs.Firsts.{first_short, first_on, first_off}
use Rattle.origins.proofs.first_is.Goals as goal
use Rattle.origins.proofs.first_is.Goals.{else-n-s-via-then-n-s+else-s-n-ne10, else-n-s-via-else-n-s}

pub returns-then-s-n-ne10 : goal.returns-then-s-n-ne10
returns-then-s-n-ne10 c = first_off _ _ c.if-n-s.true c.if-s-n-ne10.true

pub returns : goal.returns
returns c =
    c.starts_with.ensures.value ∙ starts_is_prefixed c.args.line.now c.args.s.now
    ∙ elim c.else-n-s.branch [
      | else-n-s-via-then-n-s+else-s-n-ne10 w ↦ first_on _ _ w.if-n-s.true w.if-s-n-ne10.false
      | else-n-s-via-else-n-s w ↦ first_short _ _ w.if-n-s.false
    ]
