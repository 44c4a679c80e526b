use Rattle.bind.proofs.SiteLaws.{noted_other, noted-kept, noted-new, mark-lt}
use Rattle.bind.specs.Inner.Steps.{bound_at, mark_row, passes}
use mathlib.Core.Path.{sym, ap, ◌∙◌}
use native.Mathlib.Omega.{arith}
use Rattle.bind.proofs.mark_name.Goals as goal

pub returns-then-not-told : goal.returns-then-not-told
returns-then-not-told c =
    let a = c.args in
    record { answer = sym c.if-not-told.true ∙ c.told.ensures ∙ sym (ap (passes (bound_at a.text.now a.s a.blocks.now a.starts.now)) (sym c.reg_name.ensures ∙ c.in-Some.is)); memory = noted-kept (bound_at a.text.now a.s a.blocks.now a.starts.now) (mark_row a.text.now a.s) _ a.marks.now _ (sym c.reg_name.ensures ∙ c.in-Some.is) c.told.result c.told.ensures c.if-not-told.true }

pub store_row-k-requires : goal.store_row-k-requires
store_row-k-requires c =
    let a = c.args in
    let p = c.requires in
    let v = c.in-Some.q.0 in
    let y = c.if-not-told.false in
    (λ h. p.0.1.row v h (sym c.told.ensures ∙ y), omega (arith, mark-lt a.text.now a.s a.blocks.now a.starts.now a.marks.now v c.told.result c.told.ensures y p.1))

pub bounds-marks-k : goal.bounds-marks-k
bounds-marks-k c =
    let a = c.args in
    omega (arith, c.store_row-k.ensures, mark-lt a.text.now a.s a.blocks.now a.starts.now a.marks.now c.in-Some.q.0 c.told.result c.told.ensures c.if-not-told.false c.requires.1)

pub returns-else-not-told : goal.returns-else-not-told
returns-else-not-told c =
    let a = c.args in
    record { answer = sym c.if-not-told.false ∙ c.told.ensures ∙ sym (ap (passes (bound_at a.text.now a.s a.blocks.now a.starts.now)) (sym c.reg_name.ensures ∙ c.in-Some.is)); memory = noted-new (bound_at a.text.now a.s a.blocks.now a.starts.now) (mark_row a.text.now a.s) _ a.marks.now _ (sym c.reg_name.ensures ∙ c.in-Some.is) c.told.result c.told.ensures c.if-not-told.false _ c.store_row-k.ensures }

pub returns-in-None : goal.returns-in-None
returns-in-None c =
    let a = c.args in
    record { answer = sym (ap (passes (bound_at a.text.now a.s a.blocks.now a.starts.now)) (sym c.reg_name.ensures ∙ c.in-None.is)); memory = noted_other (bound_at a.text.now a.s a.blocks.now a.starts.now) (mark_row a.text.now a.s) _ a.marks.now (sym c.reg_name.ensures ∙ c.in-None.is) }
