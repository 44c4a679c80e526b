use Rattle.text.proofs.Trims.{span-told}
use Rattle.text.proofs.trim_span.Goals as goal

pub returns-then-c : goal.returns-then-c
returns-then-c c = span-told c.args.s.now _ _ c.byte-a.ensures c.back-c.ensures c.if-a.true c.if-c.true
