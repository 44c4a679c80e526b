use mathlib.Core.Path.{sym, ap, ◌∙◌}
use lib.ListN.{length}
use Rattle.lines.specs.Lf.{same}
use Rattle.lines.proofs.LfLaws.{rest_of}
use Rattle.names.specs.Names.{decimal}
use Rattle.names.proofs.Equal.{same-front}
use Rattle.names.proofs.prints_after.Goals as goal

pub returns-then-not-starts_with : goal.returns-then-not-starts_with
returns-then-not-starts_with c =
    let a = c.args in
    sym (same-front a.p.now a.s.now (decimal a.v) ∙ rw (sym c.starts_with.ensures ∙ c.if-not-starts_with.true))

pub returns : goal.returns
returns c =
    let a = c.args in
    let d = decimal a.v in
    c.prints.ensures ∙ ap (λ l. same l d) (c.cut.ensures ∙ rest_of a.s.now (length a.p.now))
    ∙ sym (same-front a.p.now a.s.now d ∙ rw (sym c.starts_with.ensures ∙ c.if-not-starts_with.false))
