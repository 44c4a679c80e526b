use mathlib.Core.Path.{sym, ◌∙◌}
use native.Mathlib.Omega.{arith}
use Rattle.forms.proofs.BreaksLaws.{breaks-by, breaks-read, breaks-else}
use Rattle.forms.proofs.breaks.Goals as goal

pub parse-requires : goal.parse-requires
parse-requires c = tt

pub count_reg-requires : goal.count_reg-requires
count_reg-requires c = tt

pub returns-then-count_reg-gt0 : goal.returns-then-count_reg-gt0
returns-then-count_reg-gt0 c =
    let a = c.args in
    let k = c.count_reg.ensures in
    let t = c.if-count_reg-gt0.true in
    sym (breaks-read a.rhs.now _ a.line.now c.in-Store.s (sym c.in-Store.is ∙ c.parse.ensures) (omega arith))

pub writes_any-requires : goal.writes_any-requires
writes_any-requires c = tt

pub returns-in-Decl : goal.returns-in-Decl
returns-in-Decl c = sym (breaks-by _ _ _ _ (sym c.in-Decl.is ∙ c.parse.ensures))

pub returns-else-count_reg-gt0 : goal.returns-else-count_reg-gt0
returns-else-count_reg-gt0 c =
    let a = c.args in
    let k = c.count_reg.ensures in
    let t = c.if-count_reg-gt0.false in
    c.writes_any.ensures ∙ sym (breaks-else a.rhs.now _ a.line.now c.in-Store.s (sym c.in-Store.is ∙ c.parse.ensures) (omega arith))

pub returns-in-Other : goal.returns-in-Other
returns-in-Other c = sym (breaks-by _ _ _ _ (sym c.in-Other.is ∙ c.parse.ensures))
