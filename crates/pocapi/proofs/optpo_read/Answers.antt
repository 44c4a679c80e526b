use lib.ListN.{length, replicate}
use Rattle.po.specs.Answers.{Strings, read_text, read_after, strings_number}
use Rattle.po.specs.Reader.{read_of}
use Rattle.pocapi.specs.Called.{strings_size, strings_place}
use Rattle.pocapi.proofs.Answered.{answered}
use Rattle.pocapi.proofs.optpo_read.Goals as goal

pub read_po-answer-requires : goal.read_po-answer-requires
read_po-answer-requires c = tt

pub read_size_of-requires : goal.read_size_of-requires
read_size_of-requires c = tt

pub read_place_of-requires : goal.read_place_of-requires
read_place_of-requires c = tt

pub read_number_of-requires : goal.read_number_of-requires
read_number_of-requires c = tt

pub shape_of-index : goal.shape_of-index
shape_of-index c = c.read_po-answer.auto.index

pub shape_of-out : goal.shape_of-out
shape_of-out c = c.read_po-answer.auto.out

pub returns : goal.returns
returns c =
    let a = c.args in
    let w = c.read_po-answer in
    let whole = answered strings_number strings_size strings_place (λ (r : Strings). replicate (length a.index.now) 0) (λ (r : Strings). read_after r (read_text (read_of a.file.now)) a.out.now) w.ensures.value c.read_number_of.ensures c.read_size_of.ensures c.read_place_of.ensures w.ensures.index_after w.ensures.out_after in
    record { number = whole.0; size = whole.1.0; place = whole.1.1.0; index = whole.1.1.1.0; result = whole.1.1.1.1 }
