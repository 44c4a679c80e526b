-- Each public function of crate steps: its contract fixes its outcome. Assumes nothing.
use mathlib.Core.Path.{sym, ◌∙◌}
use Rattle.lines.proofs.OutLaws.{wrote-once}
use Rattle.steps.proofs as steps
use Rattle.steps.specs.contracts as said
use Rattle.determined.proofs.Outcomes.{Determined, fixed, fixed-by, one, more}

-- the result, and then each buffer and table in its place: by what is left in the scratch, by what is left in the tables, and by where lines go
pub step-fixed : Determined said.step.ended (λ κs z. z) steps.step.Reads.ensures
step-fixed = fixed-by steps.step.Reads.Learnt (λ w κs a x. more w (more w (more w (more w (one w))))) (λ κs a x y l m.
    let p = wrote-once l.0 m.0 in
    let f = l.1.0 in
    let g = m.1.0 in
    let t = l.1.1.0 in
    let u = m.1.1.0 in
    (p.0, (f.c-left ∙ sym g.c-left, (f.d-left ∙ sym g.d-left, (f.e-left ∙ sym g.e-left, (t.f-left ∙ sym u.f-left, (t.g-left ∙ sym u.g-left, (t.h-left ∙ sym u.h-left, (f.u-left ∙ sym g.u-left, (t.v-left ∙ sym u.v-left, (t.w-left ∙ sym u.w-left, (t.x-left ∙ sym u.x-left, (t.p-left ∙ sym u.p-left, (t.q-left ∙ sym u.q-left, (t.r-left ∙ sym u.r-left, (l.1.1.1.0 ∙ sym m.1.1.1.0, (l.1.1.1.1 ∙ sym m.1.1.1.1, p.1)))))))))))))))))

pub idle-fixed : Determined said.idle.ended (λ κs z. z) steps.idle.Reads.ensures
idle-fixed = fixed steps.idle.Reads.Learnt (λ κs a x y l m. l ∙ sym m)
