use mathlib.Core.Path.{refl, ap, ◌∙◌}
use Rattle.origins.specs.declared.Form.TheVariants as form-is
use Rattle.limits.specs.declared.Limits.{Limits}
use native.Mathlib.Omega.{arith}
use Rattle.limits.proofs.AnswerLaws.{sane-small}
use Rattle.opt.specs.Inner.Room.{task_of}
use Rattle.opt.proofs.EntryLaws.{table, tidied-as}
use Rattle.opt.proofs.tidy_small.Goals as goal

pub tidy-requires : goal.tidy-requires
tidy-requires c = rw (c.task.ensures, c.small.ensures) (sane-small, (record { f-lines = table 1665 (omega arith); g-lines = table 1665 (omega arith); p-lines = table 1024 (omega arith); q-lines = table 1024 (omega arith); r-lines = table 1665 (omega arith); t-lines = table 1665 (omega arith); w-as-v = refl; w-as-x = refl }, table 1024 (omega arith)))

pub returns : goal.returns
returns c =
    let g = c.args in
    let w = c.tidy.ensures in
    let whole = tidied-as g.text.now g.out.now g.orig.now g.a.now g.b.now g.c.now g.d.now g.e.now g.u.now (c.task.ensures ∙ ap (λ (L : Limits). task_of L g.from g.to g.mode form-is.Ol) c.small.ensures) (w.answer, (w.memory, w.records)) in
    record { answer = whole.0; memory = whole.1.0; records = whole.1.1 }
