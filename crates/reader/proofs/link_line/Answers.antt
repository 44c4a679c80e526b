use Rattle.reader.proofs.ChainLaws.{link-as}
use Rattle.reader.proofs.link_line.Goals as goal

pub returns-in-Equal : goal.returns-in-Equal
returns-in-Equal c =
    let whole = link-as c.args.first.now c.args.i c.args.end c.args.w _ c.in-Equal.is (c.link.ensures.answer, c.link.ensures.memory) in
    record { answer = whole.0; memory = whole.1 }

pub returns-in-Changed : goal.returns-in-Changed
returns-in-Changed c =
    let whole = link-as c.args.first.now c.args.i c.args.end c.args.w _ c.in-Changed.is (c.link-in-Changed.ensures.answer, c.link-in-Changed.ensures.memory) in
    record { answer = whole.0; memory = whole.1 }

pub returns-in-Inside : goal.returns-in-Inside
returns-in-Inside c =
    let whole = link-as c.args.first.now c.args.i c.args.end c.args.w _ c.in-Inside.is (c.link-in-Inside.ensures.answer, c.link-in-Inside.ensures.memory) in
    record { answer = whole.0; memory = whole.1 }
