-- Each public function of crate opt: its contract fixes its outcome. Assumes nothing.
use Prim.Native.Nat.{ℕ}
use mathlib.Core.Path.{◌≡◌, ap, sym, ◌∙◌}
use mathlib.Core.List.{List}
use Rattle.origins.specs.declared.Form.TheVariants as form-is
use Rattle.reading.specs.Reading.{reading_of}
use Rattle.limits.specs.declared.Limits.{Limits}
use Rattle.limits.specs.Answer.{Answer}
use Rattle.steps.specs.Step.{step_of, step_fates}
use Rattle.passes.specs.Passes.{result_of, origins_of}
use Rattle.passes.specs.Inner.Passes.{steps_of, steps_fates}
use Rattle.opt.specs.Whole.{whole, whole_fates}
use Rattle.limits.specs.Entry.{byte_size, block_size, line_size, note_size, owners, places, work_after}
use Rattle.opt.specs.Room.{After, AfterLarge}
use Rattle.opt.proofs as opt
use Rattle.opt.specs.contracts as said
use Rattle.determined.proofs.Outcomes.{Determined, fixed-by, one, more}
use Rattle.determined.proofs.Limits.{out_once}

-- the work buffers after one answer are the same, and then what is said of the rest
pub after-once : {L : Limits} {r₁ r₂ : Answer} {a b c d e u a₁ b₁ c₁ d₁ e₁ u₁ a₂ b₂ c₂ d₂ e₂ u₂ : List ℕ} {rest : Type 0} → r₁ ≡ r₂ → After L r₁ a b c d e u a₁ b₁ c₁ d₁ e₁ u₁ →
    After L r₂ a b c d e u a₂ b₂ c₂ d₂ e₂ u₂ → rest → (a₁ ≡ a₂) × ((b₁ ≡ b₂) × ((c₁ ≡ c₂) × ((d₁ ≡ d₂) × ((e₁ ≡ e₂) × ((u₁ ≡ u₂) × rest)))))
after-once {L} {r₁} {r₂} {a} {b} {c} {d} {e} {u} p f g rest = (
  f.a-after ∙ (ap (λ r. work_after r (byte_size L) a) p ∙ sym g.a-after),
  (
    f.b-after ∙ (ap (λ r. work_after r (byte_size L) b) p ∙ sym g.b-after),
    (
      f.c-after ∙ (ap (λ r. work_after r (byte_size L) c) p ∙ sym g.c-after),
      (
        f.d-after ∙ (ap (λ r. work_after r (byte_size L) d) p ∙ sym g.d-after),
        (
          f.e-after ∙ (ap (λ r. work_after r (byte_size L) e) p ∙ sym g.e-after),
          (f.u-after ∙ (ap (λ r. work_after r (block_size L) u) p ∙ sym g.u-after), rest),
        ),
      ),
    ),
  ),
)

-- and those of the second pair
pub large-once : {L : Limits} {y₁ y₂ : Answer} {a b c d e f g h u v w x p q r t o z a₁ b₁ c₁ d₁ e₁ f₁ g₁ h₁ u₁ v₁ w₁ x₁ p₁ q₁ r₁ t₁ o₁ z₁ a₂ b₂ c₂ d₂ e₂ f₂ g₂ h₂ u₂ v₂ w₂ x₂ p₂ q₂ r₂ t₂ o₂ z₂ : List ℕ} {rest : Type 0} → y₁ ≡ y₂ →
    AfterLarge L y₁ a b c d e f g h u v w x p q r t o z a₁ b₁ c₁ d₁ e₁ f₁ g₁ h₁ u₁ v₁ w₁ x₁ p₁ q₁ r₁ t₁ o₁ z₁ →
    AfterLarge L y₂ a b c d e f g h u v w x p q r t o z a₂ b₂ c₂ d₂ e₂ f₂ g₂ h₂ u₂ v₂ w₂ x₂ p₂ q₂ r₂ t₂ o₂ z₂ → rest →
    (a₁ ≡ a₂) × ((b₁ ≡ b₂) × ((c₁ ≡ c₂) × ((d₁ ≡ d₂) × ((e₁ ≡ e₂) × ((f₁ ≡ f₂) × ((g₁ ≡ g₂) × ((h₁ ≡ h₂) × ((u₁ ≡ u₂) × ((v₁ ≡ v₂) × ((w₁ ≡ w₂) × ((x₁ ≡ x₂) × ((p₁ ≡ p₂) × ((q₁ ≡ q₂) × ((r₁ ≡ r₂) × ((t₁ ≡ t₂) × ((o₁ ≡ o₂) × ((z₁ ≡ z₂) × (rest))))))))))))))))))
large-once {L} {y₁} {y₂} {a} {b} {c} {d} {e} {f} {g} {h} {u} {v} {w} {x} {p} {q} {r} {t} {o} {z} is k₁ k₂ rest = (k₁.buffers.a-after ∙ (ap (λ y. work_after y (byte_size L) a) is ∙ sym k₂.buffers.a-after), (k₁.buffers.b-after ∙ (ap (λ y. work_after y (byte_size L) b) is ∙ sym k₂.buffers.b-after), (k₁.buffers.c-after ∙ (ap (λ y. work_after y (byte_size L) c) is ∙ sym k₂.buffers.c-after), (k₁.buffers.d-after ∙ (ap (λ y. work_after y (byte_size L) d) is ∙ sym k₂.buffers.d-after), (k₁.buffers.e-after ∙ (ap (λ y. work_after y (byte_size L) e) is ∙ sym k₂.buffers.e-after), (k₁.f-after ∙ (ap (λ y. work_after y places f) is ∙ sym k₂.f-after), (k₁.g-after ∙ (ap (λ y. work_after y places g) is ∙ sym k₂.g-after), (k₁.h-after ∙ (ap (λ y. work_after y (line_size L) h) is ∙ sym k₂.h-after), (k₁.buffers.u-after ∙ (ap (λ y. work_after y (block_size L) u) is ∙ sym k₂.buffers.u-after), (k₁.v-after ∙ (ap (λ y. work_after y (note_size L) v) is ∙ sym k₂.v-after), (k₁.w-after ∙ (ap (λ y. work_after y (note_size L) w) is ∙ sym k₂.w-after), (k₁.x-after ∙ (ap (λ y. work_after y (note_size L) x) is ∙ sym k₂.x-after), (k₁.p-after ∙ (ap (λ y. work_after y (line_size L) p) is ∙ sym k₂.p-after), (k₁.q-after ∙ (ap (λ y. work_after y (line_size L) q) is ∙ sym k₂.q-after), (k₁.r-after ∙ (ap (λ y. work_after y places r) is ∙ sym k₂.r-after), (k₁.t-after ∙ (ap (λ y. work_after y places t) is ∙ sym k₂.t-after), (k₁.o-after ∙ (ap (λ y. work_after y owners o) is ∙ sym k₂.o-after), (k₁.z-after ∙ (ap (λ y. work_after y (line_size L) z) is ∙ sym k₂.z-after), rest))))))))))))))))))

pub optimize-fixed : Determined said.optimize.ended (λ κs z. z) opt.optimize.Reads.ensures
optimize-fixed = fixed-by opt.optimize.Reads.Learnt (λ w κs a x. more w (more w (one w))) (λ κs a x y l m.
    let p = l.0 ∙ sym m.0 in
    let R = reading_of a.0 in
    after-once p l.1.0.1 m.1.0.1 (out_once (result_of (whole R) a.1.0.now) a.1.1.1.1.1.1.1.1.0.now p l.1.0.0 m.1.0.0, (out_once (origins_of form-is.Ol (whole R) (whole_fates R) a.1.0.now) a.1.1.1.1.1.1.1.1.1.0.now p l.1.1 m.1.1, p)))

pub run-pass-fixed : Determined said.run_pass.ended (λ κs z. z) opt.run_pass.Reads.ensures
run-pass-fixed = fixed-by opt.run_pass.Reads.Learnt (λ w κs a x. more w (more w (one w))) (λ κs a x y l m.
    let p = l.0 ∙ sym m.0 in
    let R = reading_of a.1.0 in
    after-once p l.1.0.1 m.1.0.1 (out_once (result_of (step_of R a.0) a.1.1.0.now) a.1.1.1.1.1.1.1.1.1.0.now p l.1.0.0 m.1.0.0, (out_once (origins_of form-is.Ol (step_of R a.0) (step_fates R a.0) a.1.1.0.now) a.1.1.1.1.1.1.1.1.1.1.0.now p l.1.1 m.1.1, p)))

pub run-stages-fixed : Determined said.run_stages.ended (λ κs z. z) opt.run_stages.Reads.ensures
run-stages-fixed = fixed-by opt.run_stages.Reads.Learnt (λ w κs a x. more w (more w (one w))) (λ κs a x y l m.
    let p = l.0 ∙ sym m.0 in
    let R = reading_of a.1.0 in
    after-once p l.1.0.1 m.1.0.1 (out_once (result_of (steps_of R 0 a.0) a.1.1.0.now) a.1.1.1.1.1.1.1.1.1.0.now p l.1.0.0 m.1.0.0, (out_once (origins_of form-is.Ol (steps_of R 0 a.0) (steps_fates R 0 a.0) a.1.1.0.now) a.1.1.1.1.1.1.1.1.1.1.0.now p l.1.1 m.1.1, p)))

pub optimize-large-fixed : Determined said.optimize_large.ended (λ κs z. z) opt.optimize_large.Reads.ensures
optimize-large-fixed = fixed-by opt.optimize_large.Reads.Learnt (λ w κs a x. more w (more w (one w))) (λ κs a x y l m.
    let p = l.0 ∙ sym m.0 in
    let R = reading_of a.0 in
    large-once p l.1.0.1 m.1.0.1 (out_once (result_of (whole R) a.1.1.0.now) a.1.1.1.1.1.1.1.1.1.1.1.1.1.1.1.1.1.1.1.1.1.0.now p l.1.0.0 m.1.0.0, (out_once (origins_of a.1.0 (whole R) (whole_fates R) a.1.1.0.now) a.1.1.1.1.1.1.1.1.1.1.1.1.1.1.1.1.1.1.1.1.1.1.0.now p l.1.1 m.1.1, p)))

pub run-pass-large-fixed : Determined said.run_pass_large.ended (λ κs z. z) opt.run_pass_large.Reads.ensures
run-pass-large-fixed = fixed-by opt.run_pass_large.Reads.Learnt (λ w κs a x. more w (more w (one w))) (λ κs a x y l m.
    let p = l.0 ∙ sym m.0 in
    let R = reading_of a.1.0 in
    large-once p l.1.0.1 m.1.0.1 (out_once (result_of (step_of R a.0) a.1.1.1.0.now) a.1.1.1.1.1.1.1.1.1.1.1.1.1.1.1.1.1.1.1.1.1.1.0.now p l.1.0.0 m.1.0.0, (out_once (origins_of a.1.1.0 (step_of R a.0) (step_fates R a.0) a.1.1.1.0.now) a.1.1.1.1.1.1.1.1.1.1.1.1.1.1.1.1.1.1.1.1.1.1.1.0.now p l.1.1 m.1.1, p)))
