use mathlib.Core.Path.{ap, ◌∙◌}
use Rattle.origins.specs.declared.Form.{Form}
use Rattle.limits.specs.Entry.{out_after}
use Rattle.capi.specs.Called.{tidied_origins, tidy_large_answer}
use Rattle.capi.proofs.Answered.{answered-large}
use Rattle.capi.proofs.optlines_optimize_large.Goals as goal

pub returns : goal.returns
returns c =
    let g = c.args in
    let o = c.optimize_large-answer in
    let e = c.form_of.ensures in
    let whole = answered-large _ _ _ _
    (o.ensures.answer ∙ ap (λ (F : Form). tidy_large_answer g.mode F g.text.now g.a.now g.b.now g.c.now g.d.now g.e.now g.f.now g.g.now g.h.now g.u.now g.v.now g.w.now g.x.now g.p.now g.q.now g.r.now g.t.now g.own.now g.table.now g.out.now g.orig.now) e)
    c.number_of.ensures
    c.length_of.ensures
    c.place_of.ensures
    o.ensures.memory.0
    (o.ensures.records ∙ ap (λ (F : Form). out_after o.result (tidied_origins F g.mode g.text.now) g.orig.now) e)
    o.ensures.memory.1 in
    record { number = whole.0; size = whole.1.0; place = whole.1.1.0; result = whole.1.1.1.0; records = whole.1.1.1.1.0; work = whole.1.1.1.1.1 }
