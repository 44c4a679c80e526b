-- Each public function of crate reader: its contract fixes its outcome. Assumes nothing.
use mathlib.Core.Path.{sym, ◌∙◌}
use Rattle.reader.proofs as reader
use Rattle.reader.specs.contracts as said
use Rattle.determined.proofs.Outcomes.{Determined, fixed, fixed-by, one, more}

pub number-of-fixed : Determined said.number_of.ended (λ κs z. z) reader.number_of.Reads.ensures
number-of-fixed = fixed reader.number_of.Reads.Learnt (λ κs a x y l m. l ∙ sym m)

pub place-of-fixed : Determined said.place_of.ended (λ κs z. z) reader.place_of.Reads.ensures
place-of-fixed = fixed reader.place_of.Reads.Learnt (λ κs a x y l m. l ∙ sym m)

pub count-of-fixed : Determined said.count_of.ended (λ κs z. z) reader.count_of.Reads.ensures
count-of-fixed = fixed reader.count_of.Reads.Learnt (λ κs a x y l m. l ∙ sym m)

pub form-of-fixed : Determined said.form_of.ended (λ κs z. z) reader.form_of.Reads.ensures
form-of-fixed = fixed reader.form_of.Reads.Learnt (λ κs a x y l m. l ∙ sym m)

pub check-fixed : Determined said.check.ended (λ κs z. z) reader.check.Reads.ensures
check-fixed = fixed reader.check.Reads.Learnt (λ κs a x y l m. l ∙ sym m)

pub record-at-fixed : Determined said.record_at.ended (λ κs z. z) reader.record_at.Reads.ensures
record-at-fixed = fixed reader.record_at.Reads.Learnt (λ κs a x y l m. l ∙ sym m)

pub lines-of-fixed : Determined said.lines_of.ended (λ κs z. z) reader.lines_of.Reads.ensures
lines-of-fixed = fixed-by reader.lines_of.Reads.Learnt (λ w κs a x. more w (one w)) (λ κs a x y l m. (l.1 ∙ sym m.1, l.0 ∙ sym m.0))

pub lines-of-all-fixed : Determined said.lines_of_all.ended (λ κs z. z) reader.lines_of_all.Reads.ensures
lines-of-all-fixed = fixed-by reader.lines_of_all.Reads.Learnt (λ w κs a x. more w (one w)) (λ κs a x y l m.
    (l.1.0 ∙ sym m.1.0, (l.1.1 ∙ sym m.1.1, l.0 ∙ sym m.0)))

pub turn-fixed : Determined said.turn.ended (λ κs z. z) reader.turn.Reads.ensures
turn-fixed = fixed-by reader.turn.Reads.Learnt (λ w κs a x. more w (one w)) (λ κs a x y l m. (l.1 ∙ sym m.1, l.0 ∙ sym m.0))
