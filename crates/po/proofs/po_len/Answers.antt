use native.Mathlib.Omega.{arith}
use mathlib.Core.Path.{refl, sym, ◌∙◌}
use lib.ListN.{length}
use Rattle.po.proofs.IndexLaws.{tells_none}
use Rattle.po.proofs.LoopLaws.{length-start, length-out, length-in, length-end, tells-next, entry_at}
use Rattle.po.proofs.po_len.Goals as goal

pub wipe-requires : goal.wipe-requires
wipe-requires c = tt

pub first_lit-c-requires : goal.first_lit-c-requires
first_lit-c-requires c = tt

pub loop-c-init : goal.loop-c-init
loop-c-init c = let a = c.args in let f = c.first_lit-c in (length-start a.name.now a.t.now f.result f.ensures.ready f.ensures.t_value, (refl, tells_none a.t.now (length a.own.now) _ c.wipe.ensures))

pub past_lit-next-requires : goal.past_lit-next-requires
past_lit-next-requires c = record { ready = c.loop-c.invariant.0.passed.ready; at_in_bounds = c.loop-c-test.true }

pub byte_at-q-requires : goal.byte_at-q-requires
byte_at-q-requires c = tt

pub is_left_out-requires : goal.is_left_out-requires
is_left_out-requires c = record { at_in_bounds = c.loop-c-test.true; tells = c.loop-c.invariant.1.1 }

pub overflow_add-k : goal.overflow_add-k
overflow_add-k c = let l = c.loop-c in omega (arith, l.invariant.0.passed.few, c.loop-c-test.true)

pub loop-c-smaller-then-is_left_out : goal.loop-c-smaller-then-is_left_out
loop-c-smaller-then-is_left_out c = omega (arith, c.past_lit-next.ensures.at_lt_at, c.loop-c-test.true)

pub loop-c-preserved-then-is_left_out : goal.loop-c-preserved-then-is_left_out
loop-c-preserved-then-is_left_out c = let l = c.loop-c in let p = c.past_lit-next in let o = c.is_left_out in (length-out l.invariant.0 p.result p.ensures.ready_2 p.ensures.at_lt_at p.ensures.c_value (sym o.ensures.value ∙ c.if-is_left_out.true), (o.auto.own ∙ l.invariant.1.0, tells-next l.invariant.0.passed p.result p.ensures.ready_2 p.ensures.at_lt_at p.ensures.c_value o.ensures.tells_2))

pub lit_rest-requires : goal.lit_rest-requires
lit_rest-requires c = c.loop-c-test.true

pub entry_len-requires : goal.entry_len-requires
entry_len-requires c = tt

pub plus-n-requires : goal.plus-n-requires
plus-n-requires c = tt

pub overflow_add-k-else-is_left_out : goal.overflow_add-k-else-is_left_out
overflow_add-k-else-is_left_out c = let l = c.loop-c in omega (arith, l.invariant.0.passed.few, c.loop-c-test.true)

pub loop-c-smaller : goal.loop-c-smaller
loop-c-smaller c = omega (arith, c.past_lit-next.ensures.at_lt_at, c.loop-c-test.true)

pub loop-c-preserved : goal.loop-c-preserved
loop-c-preserved c = let a = c.args in let l = c.loop-c in let p = c.past_lit-next in let o = c.is_left_out in (length-in l.invariant.0 p.result p.ensures.ready_2 p.ensures.at_lt_at p.ensures.c_value (sym o.ensures.value ∙ c.if-is_left_out.false) _ c.entry_len.result c.plus-n.ensures (entry_at a.t.now l.c (length a.name.now) c.entry_len.ensures c.lit_rest.ensures c.byte_at-q.ensures), (o.auto.own ∙ l.invariant.1.0, tells-next l.invariant.0.passed p.result p.ensures.ready_2 p.ensures.at_lt_at p.ensures.c_value o.ensures.tells_2))

pub shape_of-own : goal.shape_of-own
shape_of-own c = c.loop-c.invariant.1.0 ∙ c.wipe.auto.table

pub returns : goal.returns
returns c = let l = c.loop-c in length-end l.invariant.0 c.loop-c-test.false
