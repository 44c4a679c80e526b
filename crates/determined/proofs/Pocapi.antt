-- Each public function of crate pocapi: its contract fixes its outcome. Assumes nothing.
use mathlib.Core.Path.{sym, ◌∙◌}
use Rattle.pocapi.proofs as pocapi
use Rattle.pocapi.specs.contracts as said
use Rattle.determined.proofs.Outcomes.{Determined, fixed-by, one, more}

pub optpo-write-fixed : Determined said.optpo_write.ended (λ κs z. z) pocapi.optpo_write.Reads.ensures
optpo-write-fixed = fixed-by pocapi.optpo_write.Reads.Learnt (λ w κs a x. more w (more w (more w (more w (one w))))) (λ κs a x y l m.
    let p = l.1 in
    let q = m.1 in
    (p.1.1.0 ∙ sym q.1.1.0, (p.1.1.1 ∙ sym q.1.1.1, (p.0 ∙ sym q.0, (p.1.0 ∙ sym q.1.0, l.0 ∙ sym m.0)))))

pub optpo-read-fixed : Determined said.optpo_read.ended (λ κs z. z) pocapi.optpo_read.Reads.ensures
optpo-read-fixed = fixed-by pocapi.optpo_read.Reads.Learnt (λ w κs a x. more w (more w (more w (more w (one w))))) (λ κs a x y l m.
    let p = l.1 in
    let q = m.1 in
    (p.1.1.0 ∙ sym q.1.1.0, (p.1.1.1 ∙ sym q.1.1.1, (p.0 ∙ sym q.0, (p.1.0 ∙ sym q.1.0, l.0 ∙ sym m.0)))))
