use mathlib.Core.Path.{sym, ap, ◌∙◌}
use lib.ListN.{length}
use Rattle.lines.proofs.LfLaws.{rest_of}
use Rattle.names.specs.Names.{read_number}
use Rattle.names.proofs.Texts.{after_none, after-number}
use Rattle.names.proofs.number_after.Goals as goal

pub returns-then-not-starts_with : goal.returns-then-not-starts_with
returns-then-not-starts_with c = sym (after_none _ _ (sym c.starts_with.ensures ∙ c.if-not-starts_with.true))

pub returns : goal.returns
returns c =
    let a = c.args in
    c.read_number.ensures ∙ ap read_number (c.cut.ensures ∙ rest_of a.s.now (length a.p.now))
    ∙ sym (after-number a.p.now a.s.now (sym c.starts_with.ensures ∙ c.if-not-starts_with.false))
