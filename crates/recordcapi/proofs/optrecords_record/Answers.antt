use Rattle.recordcapi.proofs.Answered.{recorded-by}
use Rattle.recordcapi.proofs.optrecords_record.Goals as goal

pub returns : goal.returns
returns c =
    let whole = recorded-by c.args.file.now c.args.i _ c.form_of-f.ensures c.record_at-w.ensures c.fate_byte.ensures c.out_line.ensures in
    record { fate = whole.0; line = whole.1 }
