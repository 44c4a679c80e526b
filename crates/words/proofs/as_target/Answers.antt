use mathlib.Core.Path.{sym, ap, ◌∙◌}
use mathlib.Core.Bool.{not}
use Rattle.lines.proofs.LfLaws.{rest_of}
use Rattle.text.specs.Trim.{trim_start}
use Rattle.words.proofs.Glue.{target-plus, target-minus, target-not, target-store}
use Rattle.words.proofs.as_target.Goals as goal

pub returns-then-starts_with : goal.returns-then-starts_with
returns-then-starts_with c =
    let a = c.args in
    let e = c.trim_start-a.ensures ∙ ap (λ l. trim_start l) (c.cut.ensures ∙ rest_of a.line.now a.to) in
    sym (target-plus a.to a.line.now _ e (sym c.starts_with.ensures ∙ c.if-starts_with.true))

pub returns-then-starts_with-2 : goal.returns-then-starts_with-2
returns-then-starts_with-2 c =
    let a = c.args in
    let e = c.trim_start-a.ensures ∙ ap (λ l. trim_start l) (c.cut.ensures ∙ rest_of a.line.now a.to) in
    sym (target-minus a.to a.line.now _ e (sym c.starts_with.ensures ∙ c.if-starts_with.false) (sym c.starts_with-2.ensures ∙ c.if-starts_with-2.true))

pub returns-then-not-starts_with : goal.returns-then-not-starts_with
returns-then-not-starts_with c =
    let a = c.args in
    let e = c.trim_start-a.ensures ∙ ap (λ l. trim_start l) (c.cut.ensures ∙ rest_of a.line.now a.to) in
    sym (target-not a.to a.line.now _ e (sym c.starts_with.ensures ∙ c.if-starts_with.false) (sym c.starts_with-2.ensures ∙ c.if-starts_with-2.false)
    (sym c.starts_with-3.ensures ∙ c.if-not-starts_with.true))

pub returns : goal.returns
returns c =
    let a = c.args in
    let e = c.trim_start-a.ensures ∙ ap (λ l. trim_start l) (c.cut.ensures ∙ rest_of a.line.now a.to) in
    ap not c.starts_with-4.ensures
    ∙ sym (target-store a.to a.line.now _ e (sym c.starts_with.ensures ∙ c.if-starts_with.false) (sym c.starts_with-2.ensures ∙ c.if-starts_with-2.false)
    (sym c.starts_with-3.ensures ∙ c.if-not-starts_with.false))
