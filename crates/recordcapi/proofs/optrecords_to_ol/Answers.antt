use Rattle.origins.specs.declared.Form.TheVariants.{Ol}
use Rattle.recordcapi.proofs.Answered.{turned_by}
use Rattle.recordcapi.proofs.optrecords_to_ol.Goals as goal

pub returns : goal.returns
returns c =
    let whole = turned_by Ol c.args.file.now c.args.out.now _ c.form_of-f.ensures c.turn-r.ensures.answer c.turn-r.ensures.memory c.number_of.ensures c.count_of.ensures c.place_of.ensures in
    record { number = whole.0; count = whole.1.0; place = whole.1.1.0; memory = whole.1.1.1 }
