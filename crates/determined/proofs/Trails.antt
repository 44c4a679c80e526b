-- The public function of crate trails: its contract fixes its outcome. Assumes nothing.
use mathlib.Core.Path.{refl, sym, ◌∙◌}
use Rattle.trails.proofs as trails
use Rattle.trails.specs.contracts as said
use Rattle.determined.proofs.Outcomes.{Determined, fixed}

pub carry-fixed : Determined said.carry.ended (λ κs z. z) trails.carry.Reads.ensures
carry-fixed = fixed trails.carry.Reads.Learnt (λ κs a x y l m. (l ∙ sym m, refl))
