-- Each public function of crate records: its contract fixes its outcome. Assumes nothing.
use mathlib.Core.Path.{refl, sym, ◌∙◌}
use Rattle.records.proofs as records
use Rattle.records.specs.contracts as said
use Rattle.determined.proofs.Outcomes.{Determined, fixed, fixed-by, one, more}

pub get-fixed : Determined said.get.ended (λ κs z. z) records.get.Reads.ensures
get-fixed = fixed records.get.Reads.Learnt (λ κs a x y l m. l ∙ sym m)

pub put-fixed : Determined said.put.ended (λ κs z. z) records.put.Reads.ensures
put-fixed = fixed records.put.Reads.Learnt (λ κs a x y l m. (l ∙ sym m, refl))

pub blank-fixed : Determined said.blank.ended (λ κs z. z) records.blank.Reads.ensures
blank-fixed = fixed records.blank.Reads.Learnt (λ κs a x y l m. l ∙ sym m)

pub window-fixed : Determined said.window.ended (λ κs z. z) records.window.Reads.ensures
window-fixed = fixed records.window.Reads.Learnt (λ κs a x y l m. l ∙ sym m)

pub fill-fixed : Determined said.fill.ended (λ κs z. z) records.fill.Reads.ensures
fill-fixed = fixed records.fill.Reads.Learnt (λ κs a x y l m. (l ∙ sym m, refl))

pub refill-fixed : Determined said.refill.ended (λ κs z. z) records.refill.Reads.ensures
refill-fixed = fixed-by records.refill.Reads.Learnt (λ w κs a x. more w (one w)) (λ κs a x y l m. (l.1 ∙ sym m.1, l.0 ∙ sym m.0))
