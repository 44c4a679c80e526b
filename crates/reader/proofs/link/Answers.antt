use Rattle.reader.proofs.ChainLaws.{link_here, link-nowhere}
use Rattle.reader.proofs.link.Goals as goal

pub returns-then-n-first : goal.returns-then-n-first
returns-then-n-first c =
    let whole = link_here c.args.first.now c.args.n c.args.i c.args.end c.if-n-first.true in
    record { answer = whole.0; memory = whole.1 }

pub returns : goal.returns
returns c =
    let whole = link-nowhere c.args.first.now c.args.n c.args.i c.args.end c.if-n-first.false in
    record { answer = whole.0; memory = whole.1 }
