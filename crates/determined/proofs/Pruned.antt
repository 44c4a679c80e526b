-- Each public function of crate pruned: its contract fixes its outcome. Assumes nothing.
use Prim.Native.Nat.{ℕ}
use mathlib.Core.Path.{◌≡◌, ap, sym, ◌∙◌}
use mathlib.Core.List.{List}
use Rattle.pruned.specs.Judged.{Judged, judged_size, live_size, judged_after}
use Rattle.pruned.proofs as pruned
use Rattle.pruned.specs.contracts as said
use Rattle.determined.proofs.Outcomes.{Determined, fixed, fixed-by, one, more}

-- a work buffer after one answer is the same
pub work-once : {r₁ r₂ : Judged} (n : ℕ) (d : List ℕ) {d₁ d₂ : List ℕ} → r₁ ≡ r₂ → d₁ ≡ judged_after r₁ n d → d₂ ≡ judged_after r₂ n d → d₁ ≡ d₂
work-once n d p f g = f ∙ (ap (λ r. judged_after r n d) p ∙ sym g)

pub number-of-fixed : Determined said.number_of.ended (λ κs z. z) pruned.number_of.Reads.ensures
number-of-fixed = fixed pruned.number_of.Reads.Learnt (λ κs a x y l m. l ∙ sym m)

pub place-of-fixed : Determined said.place_of.ended (λ κs z. z) pruned.place_of.Reads.ensures
place-of-fixed = fixed pruned.place_of.Reads.Learnt (λ κs a x y l m. l ∙ sym m)

pub check-pruning-fixed : Determined said.check_pruning.ended (λ κs z. z) pruned.check_pruning.Reads.ensures
check-pruning-fixed = fixed-by pruned.check_pruning.Reads.Learnt (λ w κs a x. more w (one w)) (λ κs a x y l m.
    let p = l.0 ∙ sym m.0 in (
      work-once judged_size a.1.1.0.now p l.1.0.0 m.1.0.0,
      (
        work-once judged_size a.1.1.1.0.now p l.1.0.1 m.1.0.1,
        (
          work-once judged_size a.1.1.1.1.0.now p l.1.1.0 m.1.1.0,
          (work-once live_size a.1.1.1.1.1.0.now p l.1.1.1 m.1.1.1, p),
        ),
      ),
    ))
