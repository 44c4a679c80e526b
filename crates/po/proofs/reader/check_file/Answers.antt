use native.Mathlib.Omega.{arith}
use mathlib.Core.Path.{refl, sym, ◌∙◌}
use lib.ListN.{length}
use Rattle.po.proofs.StateLaws.{check-start, check-bad, check-room, check-on, end-awaits, end_rest, end-good, ids-none, ids-on}
use Rattle.po.proofs.reader.check_file.Goals as goal

pub wipe-requires : goal.wipe-requires
wipe-requires c = tt

pub first_line-r-requires : goal.first_line-r-requires
first_line-r-requires c = tt

pub loop-r-init : goal.loop-r-init
loop-r-init c = let f = c.first_line-r in (check-start c.args.file.now _ f.ensures.at f.ensures.number_value.0 f.ensures.number_value.1, (refl, ids-none c.args.file.now (length c.args.own.now) _ _ c.wipe.ensures f.ensures.number_value.0))

pub is_awaited-requires : goal.is_awaited-requires
is_awaited-requires c = record { at = c.loop-r.invariant.0.stands; tells = c.loop-r.invariant.1.1 }

pub shape_of-own-then-not-is_awaited : goal.shape_of-own-then-not-is_awaited
shape_of-own-then-not-is_awaited c = c.is_awaited.auto.own ∙ (c.loop-r.invariant.1.0 ∙ c.wipe.auto.table)

pub returns-then-not-is_awaited : goal.returns-then-not-is_awaited
returns-then-not-is_awaited c = check-bad c.loop-r.invariant.0 c.loop-r-test.true (sym c.is_awaited.ensures.value ∙ c.if-not-is_awaited.true)

pub cut-requires : goal.cut-requires
cut-requires c = tt

pub given_len-n-requires : goal.given_len-n-requires
given_len-n-requires c = tt

pub overflow_add-n : goal.overflow_add-n
overflow_add-n c = omega (arith, check-room c.loop-r.invariant.0 c.loop-r-test.true (sym c.is_awaited.ensures.value ∙ c.if-not-is_awaited.false) _ _ c.cut.ensures c.given_len-n.ensures, c.loop-r-test.true)

pub line_after-r-requires : goal.line_after-r-requires
line_after-r-requires c = record { at = c.loop-r.invariant.0.stands; end_in_bounds = c.loop-r-test.true }

pub loop-r-smaller : goal.loop-r-smaller
loop-r-smaller c = omega (arith, c.line_after-r.ensures.number_value.1, c.loop-r.invariant.0.stands.ends, c.loop-r-test.true)

pub loop-r-preserved : goal.loop-r-preserved
loop-r-preserved c = let l = c.loop-r in let b = c.is_awaited in let n = c.line_after-r in (check-on l.invariant.0 c.loop-r-test.true (sym b.ensures.value ∙ c.if-not-is_awaited.false) _ _ c.cut.ensures c.given_len-n.ensures _ n.ensures.at_2 n.ensures.number_value.0 n.ensures.number_value.1, (b.auto.own ∙ l.invariant.1.0, ids-on l.invariant.0.stands c.loop-r-test.true _ n.ensures.number_value.0 (b.ensures.tells_2 (c.if-not-is_awaited.false))))

pub shape_of-own-then-r-ne3 : goal.shape_of-own-then-r-ne3
shape_of-own-then-r-ne3 c = c.loop-r.invariant.1.0 ∙ c.wipe.auto.table

pub returns-then-r-ne3 : goal.returns-then-r-ne3
returns-then-r-ne3 c = end-awaits c.loop-r.invariant.0 c.loop-r-test.false c.if-r-ne3.true

pub shape_of-own-then-r-file : goal.shape_of-own-then-r-file
shape_of-own-then-r-file c = c.loop-r.invariant.1.0 ∙ c.wipe.auto.table

pub returns-then-r-file : goal.returns-then-r-file
returns-then-r-file c = end_rest c.loop-r.invariant.0 c.loop-r-test.false c.if-r-file.true

pub shape_of-own : goal.shape_of-own
shape_of-own c = c.loop-r.invariant.1.0 ∙ c.wipe.auto.table

pub returns : goal.returns
returns c = end-good c.loop-r.invariant.0 c.loop-r-test.false c.if-r-ne3.false c.if-r-file.false
