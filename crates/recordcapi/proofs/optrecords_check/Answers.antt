use Rattle.recordcapi.proofs.Answered.{checked-by}
use Rattle.recordcapi.proofs.optrecords_check.Goals as goal

pub returns : goal.returns
returns c =
    let whole = checked-by c.args.file.now _ c.form_of-f.ensures c.check-r.ensures c.number_of.ensures c.count_of.ensures c.place_of.ensures in
    record { number = whole.0; count = whole.1.0; place = whole.1.1 }
