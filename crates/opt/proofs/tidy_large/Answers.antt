use Prim.Native.Nat.{◌-◌}
use mathlib.Core.Path.{sym, ap, ◌∙◌}
use mathlib.Core.Bool.{Bool, true}
use native.Mathlib.Omega.{arith}
use lib.ListN.{length}
use Rattle.reading.specs.Reading.{reading_of}
use Rattle.limits.specs.declared.Limits.{Limits}
use Rattle.limits.specs.declared.Task.{Task}
use Rattle.std.specs.declared.result.Result.TheVariants.{Ok, Err}
use Rattle.limits.specs.Entry.{large, is_short, checked, in_mode, whole_answer}
use Rattle.limits.proofs.AnswerLaws.{sane-large, out-kept}
use Rattle.passes.specs.Passes.{result_of}
use Rattle.passes.specs.Inner.Passes.{steps_of}
use Rattle.opt.specs.Inner.Room.{task_of}
use Rattle.opt.proofs.EntryLaws.{tall-by, large-kept, or-neither, short-answer, tidied-as}
use Rattle.opt.proofs.tidy_large.Goals as goal

pub returns-then-short : goal.returns-then-short
returns-then-short c =
    let g = c.args in
    let s = is_short large (length g.a.now) (length g.b.now) (length g.c.now) (length g.d.now) (length g.e.now) (length g.u.now) in
    let xs = result_of (steps_of (reading_of g.mode) g.from (g.to - g.from)) g.text.now in
    let y = c.refused_task.result in
    let p = short-answer y large g.form g.mode s g.text.now xs (length g.out.now) (length g.orig.now) (sym c.tables_short-short.ensures ∙ c.if-short.true) (c.refused_task.ensures ∙ ap (λ (m : Task). in_mode m.mode.0 (checked m.limits m.form true g.text.now (Ok 0))) (c.task-m.ensures ∙ ap (λ (L : Limits). task_of L g.from g.to g.mode g.form) c.large.ensures)) in
    record { answer = p.0; memory = (out-kept y xs g.out.now p.1.0, large-kept large y g.a.now g.b.now g.c.now g.d.now g.e.now g.f.now g.g.now g.h.now g.u.now g.v.now g.w.now g.x.now g.p.now g.q.now g.r.now g.t.now g.own.now g.table.now p.1.1); records = out-kept y _ g.orig.now p.1.0 }

pub tidy_lined-requires : goal.tidy_lined-requires
tidy_lined-requires c = let k = tall-by large (sym c.tables_short-short.ensures ∙ c.if-short.false) in rw (c.task-m.ensures, c.large.ensures) (sane-large, ((omega arith, omega arith), (k.0, k.1)))

pub returns : goal.returns
returns c =
    let g = c.args in
    let s = is_short large (length g.a.now) (length g.b.now) (length g.c.now) (length g.d.now) (length g.e.now) (length g.u.now) in
    let xs = result_of (steps_of (reading_of g.mode) g.from (g.to - g.from)) g.text.now in
    let w = c.tidy_lined.ensures in
    let b = w.tables in
    let d = tidied-as g.text.now g.out.now g.orig.now g.a.now g.b.now g.c.now g.d.now g.e.now g.u.now (c.task-m.ensures ∙ ap (λ (L : Limits). task_of L g.from g.to g.mode g.form) c.large.ensures) (w.answer, (w.memory, w.records)) in
    record { answer = d.0 ∙ ap (λ (y : Bool). whole_answer large g.form g.mode y g.text.now xs (length g.out.now) (length g.orig.now)) (sym (or-neither s (sym c.tables_short-short.ensures ∙ c.if-short.false))); memory = (d.1.0.0, record { buffers = d.1.0.1; f-after = b.0.f-after; g-after = b.0.g-after; h-after = b.1.h-after; v-after = b.1.v-after; w-after = b.1.w-after; x-after = b.1.x-after; p-after = b.1.p-after; q-after = b.1.q-after; r-after = b.0.r-after; t-after = b.0.t-after; o-after = b.0.o-after; z-after = b.1.z-after }); records = d.1.1 }
