use Prim.Native.Nat.{◌-◌}
use mathlib.Core.Path.{sym, ap, ◌∙◌}
use mathlib.Core.Bool.{Bool}
use lib.ListN.{length}
use Rattle.reading.specs.Reading.{reading_of}
use Rattle.std.specs.declared.result.Result.TheVariants.{Ok, Err}
use Rattle.limits.specs.Answer.{is_done}
use Rattle.passes.specs.Passes.{result_of}
use Rattle.passes.specs.Inner.Passes.{steps_of}
use Rattle.limits.specs.Entry.{is_short, checked, in_mode, records_need}
use Rattle.limits.proofs.AnswerLaws.{done-by, done-not, accepted-by, accepted-within, out-kept, mode-done, answer-refused, answer-accepted}
use Rattle.opt.proofs.EntryLaws.{long-by, all-kept, all-wiped, tables-kept, tables-wiped}
use Rattle.opt.proofs.tidy.Goals as goal

pub too_short-short-requires : goal.too_short-short-requires
too_short-short-requires c = c.requires.0

pub returns-then-number_of-ne0 : goal.returns-then-number_of-ne0
returns-then-number_of-ne0 c =
    let g = c.args in
    let L = g.m.limits in
    let F = g.m.form in
    let k = g.m.mode.0 in
    let t = g.text.now in
    let s = is_short L (length g.a.now) (length g.b.now) (length g.c.now) (length g.d.now) (length g.e.now) (length g.u.now) in
    let e = c.refused_task-refused.ensures ∙ ap (λ (x : Bool). in_mode k (checked L F x t (Ok 0))) c.too_short-short.ensures in
    let h = done-not _ c.number_of.ensures c.if-number_of-ne0.true in
    let xs = result_of (steps_of (reading_of g.m.mode.0) g.m.from (g.m.to - g.m.from)) t in
    let r = c.refused_task-refused.result in
    let p = answer-refused r L F k s t xs (length g.out.now) (length g.orig.now) e h in
    record { answer = p.0; memory = (out-kept r xs g.out.now h, all-kept L r g.a.now g.b.now g.c.now g.d.now g.e.now g.u.now p.1); records = out-kept r _ g.orig.now h; tables = tables-kept r g.f.now g.g.now g.h.now g.v.now g.w.now g.x.now g.p.now g.q.now g.r.now g.t.now g.own.now g.table.now p.1 }

pub run-requires : goal.run-requires
run-requires c = let g = c.args in let L = g.m.limits in let F = g.m.form in let k = g.m.mode.0 in let t = g.text.now in let s = is_short L (length g.a.now) (length g.b.now) (length g.c.now) (length g.d.now) (length g.e.now) (length g.u.now) in let e = c.refused_task-refused.ensures ∙ ap (λ (x : Bool). in_mode k (checked L F x t (Ok 0))) c.too_short-short.ensures in let h = done-by _ c.number_of.ensures c.if-number_of-ne0.false in let p = accepted-by L F s t (mode-done k (checked L F s t (Ok 0)) (ap is_done (sym e) ∙ h)).1 in (accepted-within c.requires.0 p, (long-by L g.a.now g.b.now g.c.now g.d.now g.e.now g.u.now p.long-enough, c.requires.1))

pub returns : goal.returns
returns c =
    let g = c.args in
    let L = g.m.limits in
    let F = g.m.form in
    let k = g.m.mode.0 in
    let t = g.text.now in
    let s = is_short L (length g.a.now) (length g.b.now) (length g.c.now) (length g.d.now) (length g.e.now) (length g.u.now) in
    let e = c.refused_task-refused.ensures ∙ ap (λ (x : Bool). in_mode k (checked L F x t (Ok 0))) c.too_short-short.ensures in
    let h = done-by _ c.number_of.ensures c.if-number_of-ne0.false in
    let xs = result_of (steps_of (reading_of g.m.mode.0) g.m.from (g.m.to - g.m.from)) t in
    let m = mode-done k (checked L F s t (Ok 0)) (ap is_done (sym e) ∙ h) in
    let w = c.run.ensures in
    record { answer = answer-accepted L F k s t xs (length g.out.now) (length g.orig.now) m.0 (accepted-by L F s t m.1) w.answer; memory = (w.memory.0, all-wiped (length xs) (length g.out.now) (records_need F t) (length g.orig.now) w.answer w.memory.1); records = w.records; tables = tables-wiped (length xs) (length g.out.now) (records_need F t) (length g.orig.now) w.answer w.tables }
