-- Each public function of crate po: its contract fixes its outcome. Assumes nothing.
use mathlib.Core.Path.{◌≡◌, sym, ap, ◌∙◌}
use Prim.Native.Nat.{ℕ}
use mathlib.Core.List.{List}
use Rattle.po.specs.Answers.{po_after, index_after, read_after}
use Rattle.po.proofs as po
use Rattle.po.specs.contracts as said
use Rattle.determined.proofs.Outcomes.{Determined, fixed, fixed-by, one, more}

-- what the output holds follows from the answer
module _ {A : Type 0} (f : A → List ℕ → List ℕ → List ℕ) {r s w : A} {text d x y : List ℕ} (p : r ≡ w) (q : s ≡ w) where
  out_once : x ≡ f r text d → y ≡ f s text d → x ≡ y
  out_once a b = a ∙ ap (λ (v : A). f v text d) (p ∙ sym q) ∙ sym b

-- and what the index holds
module _ {A : Type 0} (f : A → List ℕ → List ℕ) {r s w : A} {d x y : List ℕ} (p : r ≡ w) (q : s ≡ w) where
  room-once : x ≡ f r d → y ≡ f s d → x ≡ y
  room-once a b = a ∙ ap (λ (v : A). f v d) (p ∙ sym q) ∙ sym b

pub first-flaw-fixed : Determined said.first_flaw.ended (λ κs z. z) po.first_flaw.Reads.ensures
first-flaw-fixed = fixed po.first_flaw.Reads.Learnt (λ κs a x y l m. l ∙ sym m)

pub number-of-fixed : Determined said.number_of.ended (λ κs z. z) po.number_of.Reads.ensures
number-of-fixed = fixed po.number_of.Reads.Learnt (λ κs a x y l m. l ∙ sym m)

pub read-number-of-fixed : Determined said.read_number_of.ended (λ κs z. z) po.read_number_of.Reads.ensures
read-number-of-fixed = fixed po.read_number_of.Reads.Learnt (λ κs a x y l m. l ∙ sym m)

pub write-po-fixed : Determined said.write_po.ended (λ κs z. z) po.write_po.Reads.ensures
write-po-fixed =
    fixed-by po.write_po.Reads.Learnt (λ w κs a x. more w (more w (one w)))
    (λ κs a x y l m. (room-once (λ r d. index_after r d) l.0 m.0 l.1.0 m.1.0, (out_once (λ r t d. po_after r t d) l.0 m.0 l.1.1 m.1.1, l.0 ∙ sym m.0)))

pub read-po-fixed : Determined said.read_po.ended (λ κs z. z) po.read_po.Reads.ensures
read-po-fixed =
    fixed-by po.read_po.Reads.Learnt (λ w κs a x. more w (more w (one w)))
    (λ κs a x y l m. (l.1.0 ∙ sym m.1.0, (out_once (λ r t d. read_after r t d) l.0 m.0 l.1.1 m.1.1, l.0 ∙ sym m.0)))
