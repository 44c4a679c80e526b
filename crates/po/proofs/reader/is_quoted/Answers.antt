use mathlib.Core.Path.{sym, ◌∙◌}
use Rattle.po.proofs.LineLaws.{quoted-no-word, quoted-no-form, quoted-by}
use Rattle.po.proofs.reader.is_quoted.Goals as goal

pub returns-then-not-starts_with : goal.returns-then-not-starts_with
returns-then-not-starts_with c = let a = c.args in quoted-no-word a.w.now a.l.now (sym c.starts_with.ensures ∙ c.if-not-starts_with.true)

pub returns-then-not-is_formed : goal.returns-then-not-is_formed
returns-then-not-is_formed c = let a = c.args in quoted-no-form a.w.now a.l.now (sym c.starts_with.ensures ∙ c.if-not-starts_with.false) (sym c.is_formed.ensures ∙ c.if-not-is_formed.true)

pub returns : goal.returns
returns c = let a = c.args in c.is_utf8.ensures ∙ quoted-by a.w.now a.l.now (sym c.starts_with.ensures ∙ c.if-not-starts_with.false) (sym c.is_formed.ensures ∙ c.if-not-is_formed.false)
