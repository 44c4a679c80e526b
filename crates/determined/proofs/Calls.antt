-- The public function of crate calls: its contract fixes its outcome. Assumes nothing.
use mathlib.Core.Path.{sym, ◌∙◌}
use Rattle.lines.proofs.OutLaws.{wrote-once}
use Rattle.place.proofs.Fills.{filled-once}
use Rattle.calls.proofs as calls
use Rattle.calls.specs.contracts as said
use Rattle.determined.proofs.Outcomes.{Determined, fixed-by, one, more}

pub rebuild-calls-fixed : Determined said.rebuild_calls.ended (λ κs z. z) calls.rebuild_calls.Reads.ensures
rebuild-calls-fixed = fixed-by calls.rebuild_calls.Reads.Learnt (λ w κs a x. more w (more w (more w (more w (more w (one w)))))) (λ κs a x y l m.
    let p = l.1.1.0 in
    let q = m.1.1.0 in
    let f = l.1.1.1.0 in
    let g = m.1.1.1.0 in
    let t = l.1.1.1.1.0 in
    let s = m.1.1.1.1.0 in (
      (filled-once l.1.1.1.1.1 m.1.1.1.1.1).0,
      (
        (filled-once l.1.0 m.1.0).0,
        (
          (filled-once p.0 q.0).0,
          (
            (filled-once p.1.0 q.1.0).0,
            (
              (filled-once p.1.1 q.1.1).0,
              (
                t.0 ∙ sym s.0,
                (
                  t.1.0 ∙ sym s.1.0,
                  (
                    t.1.1 ∙ sym s.1.1,
                    ((wrote-once f.0 g.0).0, ((wrote-once f.1.0 g.1.0).0, ((wrote-once f.1.1 g.1.1).0, wrote-once l.0 m.0))),
                  ),
                ),
              ),
            ),
          ),
        ),
      ),
    ))
