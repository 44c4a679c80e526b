-- Each public function of crate capi: its contract fixes its outcome. Assumes nothing.
use mathlib.Core.Path.{refl, sym, ◌∙◌}
use Rattle.capi.proofs as capi
use Rattle.capi.specs.contracts as said
use Rattle.determined.proofs.Opt.{after-once, large-once}
use Rattle.determined.proofs.Outcomes.{Determined, fixed-by, one, more}

pub optlines-optimize-fixed : Determined said.optlines_optimize.ended (λ κs z. z) capi.optlines_optimize.Reads.ensures
optlines-optimize-fixed = fixed-by capi.optlines_optimize.Reads.Learnt (λ w κs a x. more w (more w (more w (more w (more w (one w)))))) (λ κs a x y l m.
    let p = l.1 in
    let q = m.1 in
    after-once refl p.1.1.1.1 q.1.1.1.1 (p.1.1.0 ∙ sym q.1.1.0, (p.1.1.1.0 ∙ sym q.1.1.1.0, (p.0 ∙ sym q.0, (p.1.0 ∙ sym q.1.0, l.0 ∙ sym m.0)))))

pub optlines-run-pass-fixed : Determined said.optlines_run_pass.ended (λ κs z. z) capi.optlines_run_pass.Reads.ensures
optlines-run-pass-fixed = fixed-by capi.optlines_run_pass.Reads.Learnt (λ w κs a x. more w (more w (more w (more w (more w (one w)))))) (λ κs a x y l m.
    let p = l.1 in
    let q = m.1 in
    after-once refl p.1.1.1.1 q.1.1.1.1 (p.1.1.0 ∙ sym q.1.1.0, (p.1.1.1.0 ∙ sym q.1.1.1.0, (p.0 ∙ sym q.0, (p.1.0 ∙ sym q.1.0, l.0 ∙ sym m.0)))))

pub optlines-optimize-large-fixed : Determined said.optlines_optimize_large.ended (λ κs z. z) capi.optlines_optimize_large.Reads.ensures
optlines-optimize-large-fixed = fixed-by capi.optlines_optimize_large.Reads.Learnt (λ w κs a x. more w (more w (more w (more w (more w (one w)))))) (λ κs a x y l m.
    let p = l.1 in
    let q = m.1 in
    large-once refl p.1.1.1.1 q.1.1.1.1 (p.1.1.0 ∙ sym q.1.1.0, (p.1.1.1.0 ∙ sym q.1.1.1.0, (p.0 ∙ sym q.0, (p.1.0 ∙ sym q.1.0, l.0 ∙ sym m.0)))))

pub optlines-run-pass-large-fixed : Determined said.optlines_run_pass_large.ended (λ κs z. z) capi.optlines_run_pass_large.Reads.ensures
optlines-run-pass-large-fixed = fixed-by capi.optlines_run_pass_large.Reads.Learnt (λ w κs a x. more w (more w (more w (more w (more w (one w)))))) (λ κs a x y l m.
    let p = l.1 in
    let q = m.1 in
    large-once refl p.1.1.1.1 q.1.1.1.1 (p.1.1.0 ∙ sym q.1.1.0, (p.1.1.1.0 ∙ sym q.1.1.1.0, (p.0 ∙ sym q.0, (p.1.0 ∙ sym q.1.0, l.0 ∙ sym m.0)))))
