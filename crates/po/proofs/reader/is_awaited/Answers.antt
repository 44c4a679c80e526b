use native.Mathlib.Omega.{arith}
use mathlib.Core.Path.{◌≡◌, refl, sym, ap, ◌∙◌}
use Rattle.po.specs.Reader.{awaited}
use Rattle.po.specs.Inner.ReadWalk.{state_at}
use Rattle.po.proofs.LineLaws.{empty-is}
use Rattle.po.proofs.StateLaws.{ref-awaited, await-0, await-1, await-2, await-3, await-4, await-5, await-6, ids-kept, ids_more}
use Rattle.po.proofs.reader.is_awaited.Goals as goal

pub overflow_add-r : goal.overflow_add-r
overflow_add-r c = omega (arith, c.requires.at.inside)

pub is_id-requires : goal.is_id-requires
is_id-requires c = c.requires.tells

pub returns-in-0 : goal.returns-in-0
returns-in-0 c =
    let a = c.args in
    let s = state_at a.file.now a.r.number in
    let w = sym c.requires.at.awaits ∙ c.in-0.is in
    record { value = c.same.ensures ∙ await-0 s _ w ∙ ap (awaited s) c.cut-l.ensures; tells_2 = λ e. ids-kept s _ 0 w refl c.requires.tells }

pub returns-in-1 : goal.returns-in-1
returns-in-1 c =
    let a = c.args in
    let s = state_at a.file.now a.r.number in
    let w = sym c.requires.at.awaits ∙ c.in-1.is in
    record { value = c.same-in-1.ensures ∙ await-1 s _ w ∙ ap (awaited s) c.cut-l.ensures; tells_2 = λ e. ids-kept s _ 1 w refl c.requires.tells }

pub returns-in-2 : goal.returns-in-2
returns-in-2 c =
    let a = c.args in
    let s = state_at a.file.now a.r.number in
    let w = sym c.requires.at.awaits ∙ c.in-2.is in
    record { value = c.same-in-2.ensures ∙ await-2 s _ w ∙ ap (awaited s) c.cut-l.ensures; tells_2 = λ e. ids-kept s _ 2 w refl c.requires.tells }

pub returns-in-3 : goal.returns-in-3
returns-in-3 c =
    let a = c.args in
    let s = state_at a.file.now a.r.number in
    let w = sym c.requires.at.awaits ∙ c.in-3.is in
    record { value = empty-is c.cut-l.result.now ∙ await-3 s _ w ∙ ap (awaited s) c.cut-l.ensures; tells_2 = λ e. ids-kept s _ 3 w refl c.requires.tells }

pub returns-in-4 : goal.returns-in-4
returns-in-4 c =
    let a = c.args in
    let s = state_at a.file.now a.r.number in
    let w = sym c.requires.at.awaits ∙ c.in-4.is in
    record { value = c.is_ref.ensures ∙ ref-awaited s _ _ _ (c.cut.ensures ∙ c.requires.at.name) c.requires.at.least ∙ await-4 s _ w ∙ ap (awaited s) c.cut-l.ensures; tells_2 = λ e. ids-kept s _ 4 w refl c.requires.tells }

pub returns-in-5 : goal.returns-in-5
returns-in-5 c =
    let a = c.args in
    let s = state_at a.file.now a.r.number in
    let w = sym c.requires.at.awaits ∙ c.in-5.is in
    record { value = c.is_id.ensures.value ∙ await-5 s _ w ∙ ap (awaited s) c.cut-l.ensures; tells_2 = λ e. ids_more s _ _ c.cut-l.ensures w (c.is_id.ensures.tells e) }

pub returns-in_default : goal.returns-in_default
returns-in_default c =
    let a = c.args in
    let s = state_at a.file.now a.r.number in
    let k = c.requires.at.low in
    let n : a.r.awaits ≡ 6 = omega arith in
    let w = sym c.requires.at.awaits ∙ n in
    record { value = c.is_quoted.ensures ∙ await-6 s _ w ∙ ap (awaited s) c.cut-l.ensures; tells_2 = λ e. ids-kept s _ 6 w refl c.requires.tells }
