-- Each public function of crate reading: its contract fixes its outcome. Assumes nothing.
use mathlib.Core.Path.{sym, ◌∙◌}
use Rattle.reading.proofs as reading
use Rattle.reading.specs.contracts as said
use Rattle.determined.proofs.Outcomes.{Determined, fixed}

pub is-strict-fixed : Determined said.is_strict.ended (λ κs z. z) reading.is_strict.Reads.ensures
is-strict-fixed = fixed reading.is_strict.Reads.Learnt (λ κs a x y l m. l ∙ sym m)

pub is-joined-fixed : Determined said.is_joined.ended (λ κs z. z) reading.is_joined.Reads.ensures
is-joined-fixed = fixed reading.is_joined.Reads.Learnt (λ κs a x y l m. l ∙ sym m)

pub use-of-fixed : Determined said.use_of.ended (λ κs z. z) reading.use_of.Reads.ensures
use-of-fixed = fixed reading.use_of.Reads.Learnt (λ κs a x y l m. λ i. record { reads = (l.0 ∙ sym m.0) i; stores = (l.1 ∙ sym m.1) i })

pub line-uses-fixed : Determined said.line_uses.ended (λ κs z. z) reading.line_uses.Reads.ensures
line-uses-fixed = fixed reading.line_uses.Reads.Learnt (λ κs a x y l m. l ∙ sym m)

pub uses-fixed : Determined said.uses.ended (λ κs z. z) reading.uses.Reads.ensures
uses-fixed = fixed reading.uses.Reads.Learnt (λ κs a x y l m. l ∙ sym m)

pub assign-of-fixed : Determined said.assign_of.ended (λ κs z. z) reading.assign_of.Reads.ensures
assign-of-fixed = fixed reading.assign_of.Reads.Learnt (λ κs a x y l m. l ∙ sym m)

pub left-of-fixed : Determined said.left_of.ended (λ κs z. z.now) reading.left_of.Reads.ensures
left-of-fixed = fixed reading.left_of.Reads.Learnt (λ κs a x y l m. l ∙ sym m)

pub right-of-fixed : Determined said.right_of.ended (λ κs z. z.now) reading.right_of.Reads.ensures
right-of-fixed = fixed reading.right_of.Reads.Learnt (λ κs a x y l m. l ∙ sym m)
