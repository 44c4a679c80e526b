use Rattle.origins.specs.Form.{form_shape}
use Rattle.reader.specs.Replies.{wents_in}
use Rattle.reader.proofs.ChainLaws.{chains-short, chains-found}
use Rattle.reader.proofs.answer_chains.Goals as goal

pub returns-then-next-m : goal.returns-then-next-m
returns-then-next-m c =
    let whole = chains-short (wents_in (form_shape c.args.f) c.args.file.now) c.args.first.now c.args.next.now c.args.m c.requires c.if-next-m.true in
    record { answer = whole.0; memory = whole.1 }

pub returns : goal.returns
returns c =
    let whole = chains-found (wents_in (form_shape c.args.f) c.args.file.now) c.args.first.now c.args.next.now c.args.m c.requires c.if-next-m.false _ _ c.link_all.ensures.firsts c.link_all.ensures.nexts in
    record { answer = whole.0; memory = whole.1 }
