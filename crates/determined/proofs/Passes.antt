-- The public function of crate passes: its contract fixes its outcome. Assumes nothing.
use Prim.Native.Nat.{◌-◌}
use mathlib.Core.Path.{sym, ◌∙◌}
use Rattle.reading.specs.Reading.{reading_of}
use Rattle.passes.specs.Passes.{result_of, origins_of}
use Rattle.passes.specs.Inner.Passes.{steps_of, steps_fates}
use Rattle.passes.proofs as passes
use Rattle.passes.specs.contracts as said
use Rattle.determined.proofs.Outcomes.{Determined, fixed-by, one, more}
use Rattle.determined.proofs.Limits.{out_once}

-- work buffers and tables that are all 0 are the same, each in its place
pub work-fixed : Determined said.work.ended (λ κs z. z) passes.work.Reads.ensures
work-fixed = fixed-by passes.work.Reads.Learnt (λ w κs a x. more w (more w (more w (one w)))) (λ κs a x y l m.
    let p = l.0 ∙ sym m.0 in
    let g = l.1.0.1 in
    let h = m.1.0.1 in
    let i = l.1.1.1 in
    let j = m.1.1.1 in
    let R = reading_of a.0.mode.0 in
    let n = a.0.to - a.0.from in
    let t = a.1.0.now in
    (g.a-blank ∙ sym h.a-blank, (g.b-blank ∙ sym h.b-blank, (g.c-blank ∙ sym h.c-blank, (g.d-blank ∙ sym h.d-blank, (g.e-blank ∙ sym h.e-blank, (i.f-unused ∙ sym j.f-unused, (i.g-unused ∙ sym j.g-unused, (i.h-unused ∙ sym j.h-unused, (g.u-blank ∙ sym h.u-blank, (i.v-unused ∙ sym j.v-unused, (i.w-unused ∙ sym j.w-unused, (i.x-unused ∙ sym j.x-unused, (i.p-unused ∙ sym j.p-unused, (i.q-unused ∙ sym j.q-unused, (i.r-unused ∙ sym j.r-unused, (i.t-unused ∙ sym j.t-unused, (i.o-unused ∙ sym j.o-unused, (i.z-unused ∙ sym j.z-unused, (out_once (result_of (steps_of R a.0.from n) t) a.1.1.1.1.1.1.1.1.1.1.1.1.1.1.1.1.1.1.1.1.0.now p l.1.0.0 m.1.0.0, (out_once (origins_of a.0.form (steps_of R a.0.from n) (steps_fates R a.0.from n) t) a.1.1.1.1.1.1.1.1.1.1.1.1.1.1.1.1.1.1.1.1.1.0.now p l.1.1.0 m.1.1.0, p)))))))))))))))))))))
