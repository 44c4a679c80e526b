use native.Mathlib.Omega.{arith}
use mathlib.Core.Path.{refl, sym, ap, ◌∙◌}
use lib.ListN.{length}
use Rattle.lines.proofs.OutLaws.{writing-length, writing-end, wrote_as}
use Rattle.po.specs.Inner.Walk.{entry_text}
use Rattle.po.proofs.IndexLaws.{tells_none}
use Rattle.po.proofs.LoopLaws.{file-start, file-out, file-room, file-in, file-end, tells-next, text_at}
use Rattle.po.proofs.put_body.Goals as goal

pub wipe-requires : goal.wipe-requires
wipe-requires c = tt

pub first_lit-c-requires : goal.first_lit-c-requires
first_lit-c-requires c = tt

pub loop-c-init : goal.loop-c-init
loop-c-init c = let a = c.args in let f = c.first_lit-c in (file-start a.name.now a.t.now a.a a.out.now f.result c.requires f.ensures.ready f.ensures.t_value, (refl, tells_none a.t.now (length a.own.now) _ c.wipe.ensures))

pub past_lit-next-requires : goal.past_lit-next-requires
past_lit-next-requires c = record { ready = c.loop-c.invariant.0.passed.ready; at_in_bounds = c.loop-c-test.true }

pub byte_at-q-requires : goal.byte_at-q-requires
byte_at-q-requires c = tt

pub is_left_out-requires : goal.is_left_out-requires
is_left_out-requires c = record { at_in_bounds = c.loop-c-test.true; tells = c.loop-c.invariant.1.1 }

pub overflow_add-k : goal.overflow_add-k
overflow_add-k c = let l = c.loop-c in omega (arith, l.invariant.0.passed.few, c.loop-c-test.true)

pub loop-c-smaller-then-is_left_out : goal.loop-c-smaller-then-is_left_out
loop-c-smaller-then-is_left_out c = omega (arith, c.past_lit-next.ensures.at_lt_at, c.loop-c-test.true)

pub loop-c-preserved-then-is_left_out : goal.loop-c-preserved-then-is_left_out
loop-c-preserved-then-is_left_out c = let l = c.loop-c in let p = c.past_lit-next in let o = c.is_left_out in (file-out l.invariant.0 p.result p.ensures.ready_2 p.ensures.at_lt_at p.ensures.c_value (sym o.ensures.value ∙ c.if-is_left_out.true), (o.auto.own ∙ l.invariant.1.0, tells-next l.invariant.0.passed p.result p.ensures.ready_2 p.ensures.at_lt_at p.ensures.c_value o.ensures.tells_2))

pub lit_rest-requires : goal.lit_rest-requires
lit_rest-requires c = c.loop-c-test.true

pub put_entry-o-requires : goal.put_entry-o-requires
put_entry-o-requires c = let a = c.args in let l = c.loop-c in let p = c.past_lit-next in file-room l.invariant.0 p.result p.ensures.ready_2 p.ensures.at_lt_at p.ensures.c_value (sym c.is_left_out.ensures.value ∙ c.if-is_left_out.false) _ (text_at a.t.now l.c c.lit_rest.ensures c.byte_at-q.ensures)

pub overflow_add-k-else-is_left_out : goal.overflow_add-k-else-is_left_out
overflow_add-k-else-is_left_out c = let l = c.loop-c in omega (arith, l.invariant.0.passed.few, c.loop-c-test.true)

pub loop-c-smaller : goal.loop-c-smaller
loop-c-smaller c = omega (arith, c.past_lit-next.ensures.at_lt_at, c.loop-c-test.true)

pub loop-c-preserved : goal.loop-c-preserved
loop-c-preserved c = let a = c.args in let l = c.loop-c in let p = c.past_lit-next in let o = c.is_left_out in (file-in l.invariant.0 p.result p.ensures.ready_2 p.ensures.at_lt_at p.ensures.c_value (sym o.ensures.value ∙ c.if-is_left_out.false) _ _ (wrote_as (ap (entry_text a.name.now l.c.line) (text_at a.t.now l.c c.lit_rest.ensures c.byte_at-q.ensures)) c.put_entry-o.ensures), (o.auto.own ∙ l.invariant.1.0, tells-next l.invariant.0.passed p.result p.ensures.ready_2 p.ensures.at_lt_at p.ensures.c_value o.ensures.tells_2))

pub shape_of-out : goal.shape_of-out
shape_of-out c = writing-length c.loop-c.invariant.0.writing

pub shape_of-own : goal.shape_of-own
shape_of-own c = c.loop-c.invariant.1.0 ∙ c.wipe.auto.table

pub returns : goal.returns
returns c = writing-end (file-end c.loop-c.invariant.0 c.loop-c-test.false)
