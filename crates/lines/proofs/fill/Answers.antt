use Rattle.std.proofs.Common.{set, ap, ◌∙◌}
use Rattle.lines.proofs.Fills.{fill-more}
use Rattle.lines.proofs.fill.Goals as goal

pub loop-i-preserved : goal.loop-i-preserved
loop-i-preserved g c = ap (λ l. set l c.loop-i.i c.args.value) c.loop-i.invariant ∙ fill-more c.args.value c.loop-i.i c.args.block.now c.loop-i-test.true
