use Prim.Native.Nat.{ℕ, ◌*◌}
use mathlib.Core.Path.{ap, sym, refl, ◌∙◌}
use mathlib.Core.Bool.{Bool}
use mathlib.Core.List.{List}
use lib.ListN.{length}
use Rattle.lines.specs.Lf.{ends_in, lines_of}
use Rattle.lines.specs.Steps.{split_lines, joined}
use Rattle.limits.specs.Entry.{roomed, out_after}
use Rattle.limits.proofs.AnswerLaws.{out-kept, done-by, done-not}
use Rattle.passes.proofs.WorkLaws.{need-fits, records-fit, records-done}
use Rattle.passes.proofs.put_all.Goals as goal

pub overflow_mul-need : goal.overflow_mul-need
overflow_mul-need c = record { fits = need-fits c.args.form (length c.args.table.now) c.size_of.ensures c.requires }

pub put_records-requires : goal.put_records-requires
put_records-requires c = let g = c.args in let n = length (joined c.ends_lf-ended.result (lines_of g.lf.now)) in records-fit g.form c.finish-r.result n (length g.out.now) (length g.table.now) (length g.orig.now) (lines_of g.lf.now) (split_lines g.text.now) g.table.now (c.finish-r.ensures.answer ∙ ap (λ (i : ℕ). roomed n (length g.out.now) (i * length g.table.now) (length g.orig.now)) c.size_of.ensures) (sym c.number_of.ensures ∙ c.if-number_of-eq0.true) refl

pub returns-then-number_of-eq0 : goal.returns-then-number_of-eq0
returns-then-number_of-eq0 c =
    let g = c.args in
    let f = c.finish-r in
    let q = ap (λ (x : Bool). joined x (lines_of g.lf.now)) c.ends_lf-ended.ensures in
    record { answer = f.ensures.answer ∙ ap (λ (x : List ℕ). roomed (length x) (length g.out.now) (c.size_of.result * length g.table.now) (length g.orig.now)) q ∙ ap (λ (i : ℕ). roomed (length (joined (ends_in 10 g.text.now) (lines_of g.lf.now))) (length g.out.now) (i * length g.table.now) (length g.orig.now)) c.size_of.ensures; result = f.ensures.memory ∙ ap (λ (x : List ℕ). out_after f.result x g.out.now) q; records = records-done f.result (done-by f.result c.number_of.ensures c.if-number_of-eq0.true) c.put_records.ensures }

pub returns-else-number_of-eq0 : goal.returns-else-number_of-eq0
returns-else-number_of-eq0 c =
    let g = c.args in
    let f = c.finish-r in
    let q = ap (λ (x : Bool). joined x (lines_of g.lf.now)) c.ends_lf-ended.ensures in
    record { answer = f.ensures.answer ∙ ap (λ (x : List ℕ). roomed (length x) (length g.out.now) (c.size_of.result * length g.table.now) (length g.orig.now)) q ∙ ap (λ (i : ℕ). roomed (length (joined (ends_in 10 g.text.now) (lines_of g.lf.now))) (length g.out.now) (i * length g.table.now) (length g.orig.now)) c.size_of.ensures; result = f.ensures.memory ∙ ap (λ (x : List ℕ). out_after f.result x g.out.now) q; records = out-kept f.result _ g.orig.now (done-not f.result c.number_of.ensures c.if-number_of-eq0.false) }
