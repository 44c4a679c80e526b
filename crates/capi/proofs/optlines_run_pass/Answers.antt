use Rattle.capi.proofs.Answered.{answered}
use Rattle.capi.proofs.optlines_run_pass.Goals as goal

pub returns : goal.returns
returns c =
    let o = c.run_pass-answer in
    let whole = answered _ _ _ _
    o.ensures.answer
    c.number_of.ensures
    c.length_of.ensures
    c.place_of.ensures
    o.ensures.memory.0
    o.ensures.records
    o.ensures.memory.1 in
    record { number = whole.0; size = whole.1.0; place = whole.1.1.0; result = whole.1.1.1.0; records = whole.1.1.1.1.0; work = whole.1.1.1.1.1 }
