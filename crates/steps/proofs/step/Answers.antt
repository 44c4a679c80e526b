use mathlib.Core.Path.{sym, ap, ◌∙◌}
use Rattle.lines.specs.Lf.{lines_of, unlines}
use Rattle.lines.proofs.OutLaws.{wrote_as}
use Rattle.reading.specs.Reading.{reading_of}
use Rattle.steps.proofs.StepLaws.{step-6, leaves-6, leaves-as, last-six}
use Rattle.steps.proofs.Traces.{trail-6}
use Rattle.steps.proofs.step.Goals as goal

pub bind_step-requires : goal.bind_step-requires
bind_step-requires c = let p = c.requires.1 in let s = p.1.0 in let t = p.1.1 in (c.requires.0, (p.0, (s.b-size, ((s.u-size, s.u-narrow), (t.f-lines, (t.g-lines, (t.p-lines, t.q-lines)))))))

pub returns-then-k-eq6 : goal.returns-then-k-eq6
returns-then-k-eq6 c =
    let p = c.bind_step.ensures in
    let z = p.tables in
    let y = leaves-as c.if-k-eq6.true (leaves-6 p.memory (z.0, (z.1.0, (z.1.1.0, (z.1.1.1.0, z.1.1.1.1.0))))) in
    record { answer = wrote_as (ap unlines (sym (step-6 (reading_of c.args.m.mode.0) c.args.k (lines_of c.args.src.now) c.if-k-eq6.true))) p.answer; memory = y.0; tables = y.1; last = last-six c.args.t.now c.if-k-eq6.true z.1.1.1.1.1; origins = p.origins ∙ sym (trail-6 (reading_of c.args.m.mode.0) c.args.k (lines_of c.args.src.now) c.args.table.now c.if-k-eq6.true) }

pub other_step-requires : goal.other_step-requires
other_step-requires c = (c.requires.0, (c.if-k-eq6.false, c.requires.1))

pub returns : goal.returns
returns c =
    let whole = c.other_step.ensures in
    record { answer = whole.answer; memory = whole.memory; tables = whole.tables; last = whole.last; origins = whole.origins }
