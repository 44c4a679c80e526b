use mathlib.Core.Path.{sym, ◌∙◌}
use Rattle.lines.proofs.Tests.{no}
use Rattle.po.specs.Inner.ReadWalk.{state_at}
use Rattle.po.proofs.StateLaws.{id-no-form, id-empty, id-by, ids-text}
use Rattle.po.proofs.reader.is_id.Goals as goal

pub returns-then-not-is_quoted : goal.returns-then-not-is_quoted
returns-then-not-is_quoted c =
    let a = c.args in
    record { value = id-no-form (state_at a.file.now a.k) a.l.now (sym c.is_quoted.ensures ∙ c.if-not-is_quoted.true); tells = λ e. no e }

pub returns-then-x-eq0 : goal.returns-then-x-eq0
returns-then-x-eq0 c =
    let a = c.args in
    record { value = id-empty (state_at a.file.now a.k) a.l.now (sym c.is_quoted.ensures ∙ c.if-not-is_quoted.false) _ c.cut-text.ensures _ c.unit_at-x.ensures c.if-x-eq0.true; tells = λ e. no e }

pub is_met-requires : goal.is_met-requires
is_met-requires c = c.requires

pub returns : goal.returns
returns c =
    let a = c.args in
    let s = state_at a.file.now a.k in
    record { value = id-by s a.l.now (sym c.is_quoted.ensures ∙ c.if-not-is_quoted.false) _ c.cut-text.ensures _ c.unit_at-x.ensures c.if-x-eq0.false _ c.is_met.ensures.value; tells = λ e. ids-text s a.l.now _ c.cut-text.ensures c.is_met.ensures.tells }
