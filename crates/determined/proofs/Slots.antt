-- Each public function of crate slots: its contract fixes its outcome. Assumes nothing.
use mathlib.Core.Path.{refl, sym, ◌∙◌}
use Rattle.slots.proofs as slots
use Rattle.slots.specs.contracts as said
use Rattle.determined.proofs.Outcomes.{Determined, fixed, fixed-by, one, more}

pub seek-fixed : Determined said.seek.ended (λ κs z. z) slots.seek.Reads.ensures
seek-fixed = fixed slots.seek.Reads.Learnt (λ κs a x y l m. l ∙ sym m)

pub low-of-fixed : Determined said.low_of.ended (λ κs z. z) slots.low_of.Reads.ensures
low-of-fixed = fixed slots.low_of.Reads.Learnt (λ κs a x y l m. l ∙ sym m)

pub slot-fixed : Determined said.slot.ended (λ κs z. z) slots.slot.Reads.ensures
slot-fixed = fixed slots.slot.Reads.Learnt (λ κs a x y l m. l ∙ sym m)

pub wipe-fixed : Determined said.wipe.ended (λ κs z. z) slots.wipe.Reads.ensures
wipe-fixed = fixed slots.wipe.Reads.Learnt (λ κs a x y l m. (l ∙ sym m, refl))

pub claim-fixed : Determined said.claim.ended (λ κs z. z) slots.claim.Reads.ensures
claim-fixed = fixed slots.claim.Reads.Learnt (λ κs a x y l m. (l ∙ sym m, refl))

pub shorter-fixed : Determined said.shorter.ended (λ κs z. z) slots.shorter.Reads.ensures
shorter-fixed = fixed slots.shorter.Reads.Learnt (λ κs a x y l m. l ∙ sym m)

pub has-long-fixed : Determined said.gather.has_long.ended (λ κs z. z) slots.gather.has_long.Reads.ensures
has-long-fixed = fixed slots.gather.has_long.Reads.Learnt (λ κs a x y l m. l ∙ sym m)

pub gather-fixed : Determined said.gather.gather.ended (λ κs z. z) slots.gather.gather.Reads.ensures
gather-fixed = fixed-by slots.gather.gather.Reads.Learnt (λ w κs a x. more w (one w)) (λ κs a x y l m. (l.1 ∙ sym m.1, l.0 ∙ sym m.0))
