-- Each public function of crate temps: its contract fixes its outcome. Assumes nothing.
use mathlib.Core.Path.{sym, ◌∙◌}
use Rattle.lines.proofs.OutLaws.{wrote-once}
use Rattle.temps.proofs as temps
use Rattle.temps.specs.contracts as said
use Rattle.determined.proofs.Outcomes.{Determined, fixed, fixed-by, one, more}

pub prune-dead-temps-fixed : Determined said.prune_dead_temps.ended (λ κs z. z) temps.prune_dead_temps.Reads.ensures
prune-dead-temps-fixed = fixed-by temps.prune_dead_temps.Reads.Learnt (λ w κs a x. more w (more w (more w (one w)))) (λ κs a x y l m.
    let p = l.1.1.0 in
    let q = m.1.1.0 in
    let o = wrote-once l.0 m.0 in
    (p.0 ∙ sym q.0, (p.1.0 ∙ sym q.1.0, (p.1.1 ∙ sym q.1.1, (l.1.0 ∙ sym m.1.0, (o.0, ((wrote-once l.1.1.1 m.1.1.1).0, o.1)))))))

pub has-temp-fixed : Determined said.has_temp.ended (λ κs z. z) temps.has_temp.Reads.ensures
has-temp-fixed = fixed temps.has_temp.Reads.Learnt (λ κs a x y l m. l ∙ sym m)
