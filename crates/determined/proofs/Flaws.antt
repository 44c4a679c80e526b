-- The public function of crate flaws: its contract fixes its outcome. Assumes nothing.
use mathlib.Core.Path.{sym, ◌∙◌}
use Rattle.flaws.proofs as flaws
use Rattle.flaws.specs.contracts as said
use Rattle.determined.proofs.Outcomes.{Determined, fixed}

pub flaw-at-fixed : Determined said.flaw_at.ended (λ κs z. z) flaws.flaw_at.Reads.ensures
flaw-at-fixed = fixed flaws.flaw_at.Reads.Learnt (λ κs a x y l m. l ∙ sym m)
