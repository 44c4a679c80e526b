use borrow.Author.Tests.{leb-true}
use native.Mathlib.Omega.{arith}
use mathlib.Core.Path.{◌∙◌}
use mathlib.Core.Bool.{◌||◌}
use lib.Dec.{leb}
use lib.ListN.{length}
use Rattle.lines.proofs.Tests.{so, and_right}
use Rattle.reading.specs.Reading.{reading_of}
use Rattle.reading.proofs.Lined.{mode-lined}
use Rattle.limits.specs.declared.Refusal.TheVariants.{BadPass}
use Rattle.std.specs.declared.result.Result.TheVariants.{Ok, Err}
use Rattle.limits.specs.Entry.{large, is_short, tables_short}
use Rattle.limits.proofs.AnswerLaws.{pass-bad, pass-good, bad-runs, bad-done, out-kept}
use Rattle.steps.specs.Step.{step_of}
use Rattle.passes.specs.Passes.{result_of}
use Rattle.opt.proofs.EntryLaws.{large-kept, result-one, origins-one}
use Rattle.opt.proofs.run_pass_large.Goals as goal

pub returns-then-not-is_pass : goal.returns-then-not-is_pass
returns-then-not-is_pass c =
    let g = c.args in
    let t = g.text.now in
    let xs = result_of (step_of (reading_of g.mode) g.pass) t in
    let s = is_short large (length g.a.now) (length g.b.now) (length g.c.now) (length g.d.now) (length g.e.now) (length g.u.now) || tables_short large (length g.f.now) (length g.g.now) (length g.h.now) (length g.v.now) (length g.w.now) (length g.x.now) (length g.p.now) (length g.q.now) (length g.r.now) (length g.t.now) (length g.own.now) (length g.table.now) in
    record { answer = pass-bad large g.form g.pass g.mode s t xs (length g.out.now) (length g.orig.now) (so c.is_pass.ensures c.if-not-is_pass.true); memory = (out-kept (Err BadPass) xs g.out.now bad-done, large-kept large (Err BadPass) g.a.now g.b.now g.c.now g.d.now g.e.now g.f.now g.g.now g.h.now g.u.now g.v.now g.w.now g.x.now g.p.now g.q.now g.r.now g.t.now g.own.now g.table.now bad-runs); records = out-kept (Err BadPass) _ g.orig.now bad-done }

pub overflow_add-pass : goal.overflow_add-pass
overflow_add-pass c = let k = c.args.pass in omega (arith, leb-true k 6 (and_right (leb 1 k) (leb k 6) (so c.is_pass.ensures c.if-not-is_pass.false)))

pub returns : goal.returns
returns c =
    let g = c.args in
    let t = g.text.now in
    let xs = result_of (step_of (reading_of g.mode) g.pass) t in
    let s = is_short large (length g.a.now) (length g.b.now) (length g.c.now) (length g.d.now) (length g.e.now) (length g.u.now) || tables_short large (length g.f.now) (length g.g.now) (length g.h.now) (length g.v.now) (length g.w.now) (length g.x.now) (length g.p.now) (length g.q.now) (length g.r.now) (length g.t.now) (length g.own.now) (length g.table.now) in
    let w = c.tidy_large.ensures in
    let q = result-one (reading_of g.mode) g.pass t in
    record { answer = (rw q w.answer) ∙ pass-good large g.form g.pass g.mode s t xs (length g.out.now) (length g.orig.now) (so c.is_pass.ensures c.if-not-is_pass.false); memory = rw q w.memory; records = rw (origins-one (mode-lined g.mode) g.form g.pass t) w.records }
