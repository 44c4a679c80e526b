use mathlib.Core.Path.{sym, ap, ◌∙◌}
use native.Mathlib.Omega.{arith}
use Prim.Native.Nat.{ℕ}
use lib.ListN.{replicate}
use Rattle.lines.specs.Lf.{lines_of, unlines}
use Rattle.lines.proofs.OutLaws.{wrote_as}
use Rattle.reading.specs.Reading.{reading_of}
use Rattle.steps.proofs.StepLaws.{step-2, step-4, leaves-2, leaves-4, leaves-few, leaves-as, last-two, last-kept}
use Rattle.steps.proofs.Traces.{trail-2, trail-4, few-trail}
use Rattle.steps.proofs.other_step.Goals as goal

pub once_step-requires : goal.once_step-requires
once_step-requires c = let p = c.requires.1.1 in let s = p.1.0 in let t = p.1.1 in (c.requires.0, (p.0, ((s.c-size, (s.d-size, s.b-size)), ((s.u-size, s.u-narrow), ((t.f-lines, (t.g-lines, (t.p-lines, t.t-lines))), (t.w-as-v, t.w-as-x))))))

pub returns-then-k-eq2 : goal.returns-then-k-eq2
returns-then-k-eq2 c =
    let p = c.once_step.ensures in
    let z = p.tables in
    let y = leaves-as c.if-k-eq2.true (leaves-2 p.memory (z.0, (z.1.0, (z.1.1.0, (z.1.1.1.0, (z.1.1.1.1.0, (z.1.1.1.1.1.0, (z.1.1.1.1.1.1.0, (z.1.1.1.1.1.1.1.0, z.1.1.1.1.1.1.1.1.0))))))))) in
    record { answer = wrote_as (ap unlines (sym (step-2 (reading_of c.args.m.mode.0) c.args.k (lines_of c.args.src.now) c.if-k-eq2.true))) p.answer; memory = y.0; tables = y.1; last = last-two c.args.t.now c.if-k-eq2.true z.1.1.1.1.1.1.1.1.1; origins = p.origins ∙ sym (trail-2 (reading_of c.args.m.mode.0) c.args.k (lines_of c.args.src.now) c.args.table.now c.if-k-eq2.true) }

pub calls_step-requires : goal.calls_step-requires
calls_step-requires c = let p = c.requires.1.1 in let s = p.1.0 in let t = p.1.1 in (c.requires.0, (p.0, ((s.c-size, (s.d-size, (s.e-size, s.b-size))), ((s.u-size, s.u-narrow), (t.f-lines, (t.p-lines, (t.q-lines, t.r-lines)))))))

pub returns-then-k-eq4 : goal.returns-then-k-eq4
returns-then-k-eq4 c =
    let p = c.calls_step.ensures in
    let y = leaves-as c.if-k-eq4.true (leaves-4 p.memory p.tables) in
    record { answer = wrote_as (ap unlines (sym (step-4 (reading_of c.args.m.mode.0) c.args.k (lines_of c.args.src.now) c.if-k-eq4.true))) p.answer; memory = y.0; tables = y.1; last = last-kept c.args.t.now c.if-k-eq2.false c.requires.1.0; origins = p.origins ∙ sym (trail-4 (reading_of c.args.m.mode.0) c.args.k (lines_of c.args.src.now) c.args.table.now c.if-k-eq4.true) }

pub few_step-n-requires : goal.few_step-n-requires
few_step-n-requires c = let p = c.requires.1.1 in let s = p.1.0 in let t = p.1.1 in ((c.if-k-eq2.false, (c.if-k-eq4.false, c.requires.1.0)), (p.0, (s.b-size, (s.c-size, (s.d-size, (s.e-size, t.p-lines))))))

pub trace-requires : goal.trace-requires
trace-requires c = omega (arith, c.requires.0, c.requires.1.1.0.lines, c.requires.1.1.1.1.p-lines, c.few_step-n.auto.p)

pub shape_of-p : goal.shape_of-p
shape_of-p c = c.trace.auto.moves ∙ c.few_step-n.auto.p

pub returns : goal.returns
returns c =
    let q = c.few_step-n.ensures in
    let e = c.requires.0 in
    let y = leaves-few c.if-k-eq2.false c.if-k-eq4.false c.requires.1.0 q.memory (c.trace.ensures.memory ∙ ap (λ (n : ℕ). replicate n 0) c.few_step-n.auto.p) in
    record { answer = q.answer; memory = y.0; tables = y.1; last = last-kept c.args.t.now c.if-k-eq2.false c.requires.1.0; origins = few-trail (reading_of c.args.m.mode.0) c.args.k (lines_of c.args.src.now) c.args.table.now c.if-k-eq2.false c.if-k-eq4.false c.requires.1.0 e q.moves c.trace.ensures.origins }
