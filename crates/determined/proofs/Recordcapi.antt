-- Each public function of crate recordcapi: its contract fixes its outcome. Assumes nothing.
use mathlib.Core.Path.{sym, ◌∙◌}
use Rattle.recordcapi.proofs as recordcapi
use Rattle.recordcapi.specs.contracts as said
use Rattle.determined.proofs.Outcomes.{Determined, fixed-by, one, more}

pub optrecords-check-fixed : Determined said.optrecords_check.ended (λ κs z. z) recordcapi.optrecords_check.Reads.ensures
optrecords-check-fixed = fixed-by recordcapi.optrecords_check.Reads.Learnt (λ w κs a x. more w (more w (one w))) (λ κs a x y l m.
    (l.1.0 ∙ sym m.1.0, (l.1.1 ∙ sym m.1.1, l.0 ∙ sym m.0)))

pub optrecords-record-fixed : Determined said.optrecords_record.ended (λ κs z. z) recordcapi.optrecords_record.Reads.ensures
optrecords-record-fixed = fixed-by recordcapi.optrecords_record.Reads.Learnt (λ w κs a x. more w (one w)) (λ κs a x y l m. (l.1 ∙ sym m.1, l.0 ∙ sym m.0))

pub optrecords-lines-fixed : Determined said.optrecords_lines.ended (λ κs z. z) recordcapi.optrecords_lines.Reads.ensures
optrecords-lines-fixed = fixed-by recordcapi.optrecords_lines.Reads.Learnt (λ w κs a x. more w (more w (more w (one w)))) (λ κs a x y l m.
    (l.1.1.1 ∙ sym m.1.1.1, (l.1.0 ∙ sym m.1.0, (l.1.1.0 ∙ sym m.1.1.0, l.0 ∙ sym m.0))))

pub optrecords-to-ol-fixed : Determined said.optrecords_to_ol.ended (λ κs z. z) recordcapi.optrecords_to_ol.Reads.ensures
optrecords-to-ol-fixed = fixed-by recordcapi.optrecords_to_ol.Reads.Learnt (λ w κs a x. more w (more w (more w (one w)))) (λ κs a x y l m.
    (l.1.1.1 ∙ sym m.1.1.1, (l.1.0 ∙ sym m.1.0, (l.1.1.0 ∙ sym m.1.1.0, l.0 ∙ sym m.0))))

pub optrecords-to-om-fixed : Determined said.optrecords_to_om.ended (λ κs z. z) recordcapi.optrecords_to_om.Reads.ensures
optrecords-to-om-fixed = fixed-by recordcapi.optrecords_to_om.Reads.Learnt (λ w κs a x. more w (more w (more w (one w)))) (λ κs a x y l m.
    (l.1.1.1 ∙ sym m.1.1.1, (l.1.0 ∙ sym m.1.0, (l.1.1.0 ∙ sym m.1.1.0, l.0 ∙ sym m.0))))
