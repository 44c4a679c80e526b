use borrow.Author.Tests.{leb-true}
use native.Mathlib.Omega.{arith}
use mathlib.Core.Path.{◌∙◌}
use lib.Dec.{leb}
use lib.ListN.{length}
use Rattle.lines.proofs.Tests.{so, and_right}
use Rattle.origins.specs.declared.Form.TheVariants as form-is
use Rattle.reading.specs.Reading.{reading_of}
use Rattle.limits.specs.declared.Refusal.TheVariants.{BadPass}
use Rattle.std.specs.declared.result.Result.TheVariants.{Ok, Err}
use Rattle.steps.specs.Step.{step_of}
use Rattle.passes.specs.Passes.{result_of}
use Rattle.limits.specs.Entry.{small, is_short}
use Rattle.limits.proofs.AnswerLaws.{pass-bad, pass-good, bad-runs, bad-done, out-kept}
use Rattle.opt.proofs.EntryLaws.{all-kept, result-one, origins-one}
use Rattle.reading.proofs.Lined.{mode-lined}
use Rattle.opt.proofs.run_pass.Goals as goal

pub returns-then-not-is_pass : goal.returns-then-not-is_pass
returns-then-not-is_pass c =
    let g = c.args in
    let t = g.text.now in
    let xs = result_of (step_of (reading_of g.mode) g.pass) t in
    let s = is_short small (length g.a.now) (length g.b.now) (length g.c.now) (length g.d.now) (length g.e.now) (length g.u.now) in
    record { answer = pass-bad small form-is.Ol g.pass g.mode s t xs (length g.out.now) (length g.orig.now) (so c.is_pass.ensures c.if-not-is_pass.true); memory = (out-kept (Err BadPass) xs g.out.now bad-done, all-kept small (Err BadPass) g.a.now g.b.now g.c.now g.d.now g.e.now g.u.now bad-runs); records = out-kept (Err BadPass) _ g.orig.now bad-done }

pub overflow_add-pass : goal.overflow_add-pass
overflow_add-pass c = let k = c.args.pass in omega (arith, leb-true k 6 (and_right (leb 1 k) (leb k 6) (so c.is_pass.ensures c.if-not-is_pass.false)))

pub returns : goal.returns
returns c =
    let g = c.args in
    let t = g.text.now in
    let xs = result_of (step_of (reading_of g.mode) g.pass) t in
    let s = is_short small (length g.a.now) (length g.b.now) (length g.c.now) (length g.d.now) (length g.e.now) (length g.u.now) in
    let w = c.tidy_small.ensures in
    let q = result-one (reading_of g.mode) g.pass t in
    record { answer = (rw q w.answer) ∙ pass-good small form-is.Ol g.pass g.mode s t xs (length g.out.now) (length g.orig.now) (so c.is_pass.ensures c.if-not-is_pass.false); memory = rw q w.memory; records = rw (origins-one (mode-lined g.mode) form-is.Ol g.pass t) w.records }
