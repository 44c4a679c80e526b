-- The public function of crate phis: its contract fixes its outcome. Assumes nothing.
use mathlib.Core.Path.{sym, ◌∙◌}
use Rattle.lines.proofs.OutLaws.{wrote-once}
use Rattle.phis.proofs as phis
use Rattle.phis.specs.contracts as said
use Rattle.determined.proofs.Outcomes.{Determined, fixed, fixed-by, one, more}

pub prune-dead-phis-fixed : Determined said.prune_dead_phis.ended (λ κs z. z) phis.prune_dead_phis.Reads.ensures
prune-dead-phis-fixed = fixed-by phis.prune_dead_phis.Reads.Learnt (λ w κs a x. more w (more w (more w (more w (more w (one w)))))) (λ κs a x y l m.
    (l.1.1.1.1.0 ∙ sym m.1.1.1.1.0, ((wrote-once l.1.1.1.0 m.1.1.1.0).0, ((wrote-once l.1.0 m.1.0).0, ((wrote-once l.1.1.0 m.1.1.0).0, ((wrote-once l.0 m.0).0, ((wrote-once l.1.1.1.1.1 m.1.1.1.1.1).0, (wrote-once l.0 m.0).1)))))))

pub holds-phi-fixed : Determined said.holds_phi.ended (λ κs z. z) phis.holds_phi.Reads.ensures
holds-phi-fixed = fixed phis.holds_phi.Reads.Learnt (λ κs a x y l m. l ∙ sym m)
