-- Each public function of crate origins: its contract fixes its outcome. Assumes nothing.
use mathlib.Core.Path.{sym, ◌∙◌}
use Rattle.lines.proofs.OutLaws.{wrote-once}
use Rattle.origins.proofs as origins
use Rattle.origins.specs.contracts as said
use Rattle.determined.proofs.Outcomes.{Determined, fixed, fixed-by, one, more}

pub width-of-fixed : Determined said.width_of.ended (λ κs z. z) origins.width_of.Reads.ensures
width-of-fixed = fixed origins.width_of.Reads.Learnt (λ κs a x y l m. l ∙ sym m)

pub letter-of-fixed : Determined said.letter_of.ended (λ κs z. z) origins.letter_of.Reads.ensures
letter-of-fixed = fixed origins.letter_of.Reads.Learnt (λ κs a x y l m. l ∙ sym m)

pub gone-of-fixed : Determined said.gone_of.ended (λ κs z. z) origins.gone_of.Reads.ensures
gone-of-fixed = fixed origins.gone_of.Reads.Learnt (λ κs a x y l m. l ∙ sym m)

pub size-of-fixed : Determined said.size_of.ended (λ κs z. z) origins.size_of.Reads.ensures
size-of-fixed = fixed origins.size_of.Reads.Learnt (λ κs a x y l m. l ∙ sym m)

pub fate-byte-fixed : Determined said.fate_byte.ended (λ κs z. z) origins.fate_byte.Reads.ensures
fate-byte-fixed = fixed origins.fate_byte.Reads.Learnt (λ κs a x y l m. l ∙ sym m)

pub out-line-fixed : Determined said.out_line.ended (λ κs z. z) origins.out_line.Reads.ensures
out-line-fixed = fixed origins.out_line.Reads.Learnt (λ κs a x y l m. l ∙ sym m)

pub put-record-fixed : Determined said.put_record.ended (λ κs z. z) origins.put_record.Reads.ensures
put-record-fixed = fixed origins.put_record.Reads.Learnt (λ κs a x y l m. wrote-once l m)

pub note-fixed : Determined said.note.ended (λ κs z. z) origins.note.Reads.ensures
note-fixed = fixed origins.note.Reads.Learnt (λ κs a x y l m. wrote-once l m)

pub stay-lines-fixed : Determined said.stay_lines.ended (λ κs z. z) origins.stay_lines.Reads.ensures
stay-lines-fixed = fixed origins.stay_lines.Reads.Learnt (λ κs a x y l m. wrote-once l m)

pub note-next-fixed : Determined said.note_next.ended (λ κs z. z) origins.note_next.Reads.ensures
note-next-fixed = fixed origins.note_next.Reads.Learnt (λ κs a x y l m. wrote-once l m)

pub land-fixed : Determined said.land.ended (λ κs z. z) origins.land.Reads.ensures
land-fixed = fixed-by origins.land.Reads.Learnt (λ w κs a x. more w (one w)) (λ κs a x y l m. (l.1 ∙ sym m.1, l.0 ∙ sym m.0))

pub put-records-fixed : Determined said.put_records.ended (λ κs z. z) origins.put_records.Reads.ensures
put-records-fixed = fixed origins.put_records.Reads.Learnt (λ κs a x y l m. wrote-once l m)

pub count-standing-fixed : Determined said.count_standing.ended (λ κs z. z) origins.count_standing.Reads.ensures
count-standing-fixed = fixed origins.count_standing.Reads.Learnt (λ κs a x y l m. l ∙ sym m)
