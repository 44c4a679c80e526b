use Rattle.recordcapi.proofs.Answered.{lines-by}
use Rattle.recordcapi.proofs.optrecords_lines.Goals as goal

pub returns : goal.returns
returns c =
    let whole = lines-by c.args.file.now c.args.n c.args.room.now _ c.form_of-f.ensures c.lines_of-r.ensures.answer c.lines_of-r.ensures.memory c.number_of.ensures c.count_of.ensures c.place_of.ensures in
    record { number = whole.0; count = whole.1.0; place = whole.1.1.0; memory = whole.1.1.1 }
