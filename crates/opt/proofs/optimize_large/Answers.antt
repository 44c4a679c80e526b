use Prim.Native.Nat.{ℕ}
use mathlib.Core.Path.{sym, ap, ◌∙◌}
use mathlib.Core.Bool.{◌||◌}
use mathlib.Core.List.{List}
use lib.ListN.{length}
use Rattle.limits.specs.Entry.{large, is_short, tables_short, whole_answer, out_after}
use Rattle.reading.specs.Reading.{reading_of}
use Rattle.reading.proofs.Lined.{mode-lined}
use Rattle.opt.proofs.EntryLaws.{result-whole, origins-whole}
use Rattle.opt.proofs.optimize_large.Goals as goal

pub returns : goal.returns
returns c =
    let g = c.args in
    let R = reading_of g.mode in
    let s = is_short large (length g.a.now) (length g.b.now) (length g.c.now) (length g.d.now) (length g.e.now) (length g.u.now) || tables_short large (length g.f.now) (length g.g.now) (length g.h.now) (length g.v.now) (length g.w.now) (length g.x.now) (length g.p.now) (length g.q.now) (length g.r.now) (length g.t.now) (length g.own.now) (length g.table.now) in
    let y = c.tidy_large.result in
    let w = c.tidy_large.ensures in
    let q = sym (result-whole R g.text.now) in
    record { answer = w.answer ∙ ap (λ (xs : List ℕ). whole_answer large g.form g.mode s g.text.now xs (length g.out.now) (length g.orig.now)) q; memory = (w.memory.0 ∙ ap (λ (xs : List ℕ). out_after y xs g.out.now) q, w.memory.1); records = w.records ∙ ap (λ (xs : List ℕ). out_after y xs g.orig.now) (sym (origins-whole (mode-lined g.mode) g.form g.text.now)) }
