use native.Mathlib.Omega.{arith}
use Rattle.bind.proofs.SiteLaws.{row_at}
use Rattle.bind.proofs.ToldLaws.{row-entry}
use Rattle.bind.proofs.store_row.Goals as goal

pub overflow_sub-result : goal.overflow_sub-result
overflow_sub-result c = let a = c.args in omega (arith, row-entry a.own.now a.reg.0 a.first.now c.slot-v.ensures c.if-v-first.true c.requires.0)

pub returns-then-v-first : goal.returns-then-v-first
returns-then-v-first c = let a = c.args in omega (arith, row-entry a.own.now a.reg.0 a.first.now c.slot-v.ensures c.if-v-first.true c.requires.0)

pub overflow_add-result : goal.overflow_add-result
overflow_add-result c = let a = c.args in omega (arith, c.requires.1, row_at a.text.now a.s a.reg.0 c.cut.result.now c.cut.ensures c.first_use-f.result.row c.first_use-f.ensures.0)

pub overflow_add-result-2 : goal.overflow_add-result-2
overflow_add-result-2 c = let a = c.args in omega (arith, c.requires.1, row_at a.text.now a.s a.reg.0 c.cut.result.now c.cut.ensures c.first_use-f.result.row c.first_use-f.ensures.0)

pub returns : goal.returns
returns c = let a = c.args in row_at a.text.now a.s a.reg.0 c.cut.result.now c.cut.ensures c.first_use-f.result.row c.first_use-f.ensures.0
