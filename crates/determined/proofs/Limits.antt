-- Each public function of crate limits: its contract fixes its outcome. Assumes nothing.
use Prim.Native.Nat.{ℕ}
use mathlib.Core.Path.{◌≡◌, ap, sym, ◌∙◌}
use mathlib.Core.List.{List}
use Rattle.lines.specs.Lf.{lines_of}
use Rattle.lines.specs.Steps.{joined}
use Rattle.limits.specs.Answer.{Answer}
use Rattle.limits.specs.Entry.{out_after}
use Rattle.limits.proofs as limits
use Rattle.limits.specs.contracts as said
use Rattle.determined.proofs.Outcomes.{Determined, fixed, fixed-by, one, more}

-- the result buffer after one answer is the same
pub out_once : {r₁ r₂ : Answer} (result d : List ℕ) {d₁ d₂ : List ℕ} → r₁ ≡ r₂ → d₁ ≡ out_after r₁ result d → d₂ ≡ out_after r₂ result d → d₁ ≡ d₂
out_once result d p f g = f ∙ (ap (λ r. out_after r result d) p ∙ sym g)

pub small-fixed : Determined said.small.ended (λ κs z. z) limits.small.Reads.ensures
small-fixed = fixed limits.small.Reads.Learnt (λ κs a x y l m. l ∙ sym m)

pub large-fixed : Determined said.large.ended (λ κs z. z) limits.large.Reads.ensures
large-fixed = fixed limits.large.Reads.Learnt (λ κs a x y l m. l ∙ sym m)

pub byte-size-fixed : Determined said.byte_size.ended (λ κs z. z) limits.byte_size.Reads.ensures
byte-size-fixed = fixed limits.byte_size.Reads.Learnt (λ κs a x y l m. l ∙ sym m)

pub number-of-fixed : Determined said.number_of.ended (λ κs z. z) limits.number_of.Reads.ensures
number-of-fixed = fixed limits.number_of.Reads.Learnt (λ κs a x y l m. l ∙ sym m)

pub length-of-fixed : Determined said.length_of.ended (λ κs z. z) limits.length_of.Reads.ensures
length-of-fixed = fixed limits.length_of.Reads.Learnt (λ κs a x y l m. l ∙ sym m)

pub place-of-fixed : Determined said.place_of.ended (λ κs z. z) limits.place_of.Reads.ensures
place-of-fixed = fixed limits.place_of.Reads.Learnt (λ κs a x y l m. l ∙ sym m)

pub too-short-fixed : Determined said.too_short.ended (λ κs z. z) limits.too_short.Reads.ensures
too-short-fixed = fixed limits.too_short.Reads.Learnt (λ κs a x y l m. l ∙ sym m)

pub tables-short-fixed : Determined said.tables_short.ended (λ κs z. z) limits.tables_short.Reads.ensures
tables-short-fixed = fixed limits.tables_short.Reads.Learnt (λ κs a x y l m. l ∙ sym m)

pub refused-fixed : Determined said.refused.ended (λ κs z. z) limits.refused.Reads.ensures
refused-fixed = fixed limits.refused.Reads.Learnt (λ κs a x y l m. l ∙ sym m)

pub refused-task-fixed : Determined said.refused_task.ended (λ κs z. z) limits.refused_task.Reads.ensures
refused-task-fixed = fixed limits.refused_task.Reads.Learnt (λ κs a x y l m. l ∙ sym m)

pub finish-fixed : Determined said.finish.ended (λ κs z. z) limits.finish.Reads.ensures
finish-fixed = fixed-by limits.finish.Reads.Learnt (λ w κs a x. more w (one w)) (λ κs a x y l m.
    let p = l.0 ∙ sym m.0 in
    (out_once (joined a.1.0 (lines_of a.0.now)) a.1.1.1.1.0.now p l.1 m.1, p))
