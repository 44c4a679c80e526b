use Rattle.po.specs.Answers.{Po, po_text, po_number, po_after, index_after}
use Rattle.pocapi.specs.Called.{po_size, po_place}
use Rattle.pocapi.proofs.Answered.{answered}
use Rattle.pocapi.proofs.optpo_write.Goals as goal

pub write_po-answer-requires : goal.write_po-answer-requires
write_po-answer-requires c = tt

pub size_of-requires : goal.size_of-requires
size_of-requires c = tt

pub place_of-requires : goal.place_of-requires
place_of-requires c = tt

pub number_of-requires : goal.number_of-requires
number_of-requires c = tt

pub shape_of-index : goal.shape_of-index
shape_of-index c = c.write_po-answer.auto.index

pub shape_of-out : goal.shape_of-out
shape_of-out c = c.write_po-answer.auto.out

pub returns : goal.returns
returns c =
    let a = c.args in
    let w = c.write_po-answer in
    let whole = answered po_number po_size po_place (λ (r : Po). index_after r a.index.now) (λ (r : Po). po_after r (po_text a.name.now a.text.now) a.out.now) w.ensures.value c.number_of.ensures c.size_of.ensures c.place_of.ensures w.ensures.index_after w.ensures.out_after in
    record { number = whole.0; size = whole.1.0; place = whole.1.1.0; index = whole.1.1.1.0; result = whole.1.1.1.1 }
