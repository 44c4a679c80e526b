-- The public functions of crate once: their contracts fix their outcomes. Assumes nothing.
use mathlib.Core.Path.{sym, ◌∙◌}
use Rattle.lines.proofs.OutLaws.{wrote-once}
use Rattle.place.proofs.Fills.{filled-once}
use Rattle.once.proofs as once
use Rattle.once.specs.contracts as said
use Rattle.determined.proofs.Outcomes.{Determined, fixed, fixed-by, one, more}

pub optimize-once-fixed : Determined said.optimize_once.ended (λ κs z. z) once.optimize_once.Reads.ensures
optimize-once-fixed = fixed-by once.optimize_once.Reads.Learnt (λ w κs a x. more w (more w (more w (one w)))) (λ κs a x y l m.
    let p = l.1.0 in
    let q = m.1.0 in
    let t = l.1.1.0 in
    let s = m.1.1.0 in
    ((wrote-once p.0 q.0).0, ((wrote-once p.1.0 q.1.0).0, ((filled-once p.1.1.0 q.1.1.0).0, ((filled-once p.1.1.1.0 q.1.1.1.0).0, ((filled-once p.1.1.1.1.0 q.1.1.1.1.0).0, ((filled-once p.1.1.1.1.1 q.1.1.1.1.1).0, (t.0 ∙ sym s.0, (t.1.0 ∙ sym s.1.0, (t.1.1.0 ∙ sym s.1.1.0, (t.1.1.1.0 ∙ sym s.1.1.1.0, (t.1.1.1.1.0 ∙ sym s.1.1.1.1.0, (t.1.1.1.1.1 ∙ sym s.1.1.1.1.1, ((wrote-once l.0 m.0).0, ((wrote-once l.1.1.1 m.1.1.1).0, (wrote-once l.0 m.0).1)))))))))))))))

pub moves-of-fixed : Determined said.moves_of.ended (λ κs z. z) once.moves_of.Reads.ensures
moves-of-fixed = fixed once.moves_of.Reads.Learnt (λ κs a x y l m. wrote-once l m)

pub decide-fixed : Determined said.decide.ended (λ κs z. z) once.decide.Reads.ensures
decide-fixed = fixed-by once.decide.Reads.Learnt (λ w κs a x. more w (more w (more w (one w)))) (λ κs a x y l m.
    let p = l.1.0 in
    let q = m.1.0 in
    let t = l.1.1.0 in
    let s = m.1.1.0 in
    let r = filled-once l.0 m.0 in
    ((wrote-once p.0 q.0).0, ((filled-once p.1.0 q.1.0).0, (r.0, ((filled-once p.1.1.0 q.1.1.0).0, ((filled-once p.1.1.1 q.1.1.1).0, (t.0 ∙ sym s.0, (t.1.0 ∙ sym s.1.0, (t.1.1.0 ∙ sym s.1.1.0, (t.1.1.1 ∙ sym s.1.1.1, (l.1.1.1 ∙ sym m.1.1.1, r.1)))))))))))

pub pure-value-fixed : Determined said.pure_value.ended (λ κs z. z) once.pure_value.Reads.ensures
pure-value-fixed = fixed-by once.pure_value.Reads.Learnt (λ w κs a x. more w (one w)) (λ κs a x y l m. ((wrote-once l.1 m.1).0, l.0 ∙ sym m.0))

pub dead-below-fixed : Determined said.below.dead_below.ended (λ κs z. z) once.below.dead_below.Reads.ensures
dead-below-fixed = fixed once.below.dead_below.Reads.Learnt (λ κs a x y l m. l ∙ sym m)

pub is-scratch-fixed : Determined said.below.is_scratch.ended (λ κs z. z) once.below.is_scratch.Reads.ensures
is-scratch-fixed = fixed once.below.is_scratch.Reads.Learnt (λ κs a x y l m. l ∙ sym m)
