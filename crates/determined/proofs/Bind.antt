-- The public functions of crate bind: their contracts fix their outcomes. Assumes nothing.
use mathlib.Core.Path.{sym, ◌∙◌}
use Rattle.lines.proofs.OutLaws.{wrote-once}
use Rattle.place.proofs.Fills.{filled-once}
use Rattle.bind.proofs as bind
use Rattle.bind.specs.contracts as said
use Rattle.determined.proofs.Outcomes.{Determined, fixed, fixed-by, one, more}

pub bind-declarators-fixed : Determined said.bind_declarators.ended (λ κs z. z) bind.bind_declarators.Reads.ensures
bind-declarators-fixed = fixed-by bind.bind_declarators.Reads.Learnt (λ w κs a x. more w (more w (more w (more w (one w))))) (λ κs a x y l m.
    let p = l.1.0 in
    let q = m.1.0 in
    let t = l.1.1.1.0 in
    let s = m.1.1.1.0 in
    ((filled-once l.1.1.1.1 m.1.1.1.1).0, ((filled-once p.0 q.0).0, ((filled-once p.1.0 q.1.0).0, ((filled-once p.1.1 q.1.1).0, ((filled-once l.1.1.0 m.1.1.0).0, (t.0 ∙ sym s.0, (t.1 ∙ sym s.1, wrote-once l.0 m.0))))))))

pub moves-of-fixed : Determined said.moves_of.ended (λ κs z. z) bind.moves_of.Reads.ensures
moves-of-fixed = fixed bind.moves_of.Reads.Learnt (λ κs a x y l m. wrote-once l m)
