use mathlib.Core.Path.{refl, ◌∙◌}
use native.Mathlib.Omega.{arith}
use Prim.Native.Nat.{◌+◌}
use Rattle.pruned.proofs.FitCode.{fit-start, next-as, fit-past, fit-from, fit-near, fit-in, fit-stop, fit-last, fit_on}
use Rattle.pruned.proofs.fit.names_fit.Goals as goal

pub loop-d-init : goal.loop-d-init
loop-d-init c = fit-start c.args.body.now c.args.marks.now c.args.p.now c.args.j0 c.requires

pub returns-then-body-g : goal.returns-then-body-g
returns-then-body-g c = c.ends_here.ensures ∙ fit-past c.loop-d.invariant (next-as _ _ c.next_len-n.result c.next_digits-d.result.now c.tag_of-t.result c.next_len-n.ensures c.next_digits-d.ensures c.tag_of-t.ensures) c.next_mark-m.result c.next_mark-m.ensures c.next_near-g.result c.next_near-g.ensures c.if-body-g.true

pub returns-then-k-b : goal.returns-then-k-b
returns-then-k-b c = fit-stop (fit-near c.loop-d.invariant (next-as _ _ c.next_len-n.result c.next_digits-d.result.now c.tag_of-t.result c.next_len-n.ensures c.next_digits-d.ensures c.tag_of-t.ensures) c.next_mark-m.result c.next_mark-m.ensures c.next_near-g.result c.next_near-g.ensures c.if-body-g.false) (next-as _ _ c.next_len-n.result c.next_digits-d.result.now c.tag_of-t.result c.next_len-n.ensures c.next_digits-d.ensures c.tag_of-t.ensures) c.taken_at-k.result c.taken_at-k.ensures c.byte_at-b.result c.byte_at-b.ensures c.if-k-b.true

pub overflow_add-j : goal.overflow_add-j
overflow_add-j c = omega (arith, fit-in (fit-near c.loop-d.invariant (next-as _ _ c.next_len-n.result c.next_digits-d.result.now c.tag_of-t.result c.next_len-n.ensures c.next_digits-d.ensures c.tag_of-t.ensures) c.next_mark-m.result c.next_mark-m.ensures c.next_near-g.result c.next_near-g.ensures c.if-body-g.false) (next-as _ _ c.next_len-n.result c.next_digits-d.result.now c.tag_of-t.result c.next_len-n.ensures c.next_digits-d.ensures c.tag_of-t.ensures) c.taken_at-k.result c.taken_at-k.ensures)

pub returns-then-e-body : goal.returns-then-e-body
returns-then-e-body c = c.ends_here-then-e-body.ensures ∙ fit-last (fit-near c.loop-d.invariant (next-as _ _ c.next_len-n.result c.next_digits-d.result.now c.tag_of-t.result c.next_len-n.ensures c.next_digits-d.ensures c.tag_of-t.ensures) c.next_mark-m.result c.next_mark-m.ensures c.next_near-g.result c.next_near-g.ensures c.if-body-g.false) (next-as _ _ c.next_len-n.result c.next_digits-d.result.now c.tag_of-t.result c.next_len-n.ensures c.next_digits-d.ensures c.tag_of-t.ensures) c.taken_at-k.result c.taken_at-k.ensures c.byte_at-b.result c.byte_at-b.ensures c.if-k-b.false c.find_byte-e.result c.find_byte-e.ensures c.if-e-body.true (c.loop-d.j + c.taken_at-k.result) refl

pub loop-d-smaller : goal.loop-d-smaller
loop-d-smaller c = omega (arith, c.find_byte-e.ensures, fit-from c.loop-d.invariant (next-as _ _ c.next_len-n.result c.next_digits-d.result.now c.tag_of-t.result c.next_len-n.ensures c.next_digits-d.ensures c.tag_of-t.ensures) c.next_mark-m.result c.next_mark-m.ensures c.next_near-g.result c.next_near-g.ensures)

pub loop-d-preserved : goal.loop-d-preserved
loop-d-preserved c = fit_on (fit-near c.loop-d.invariant (next-as _ _ c.next_len-n.result c.next_digits-d.result.now c.tag_of-t.result c.next_len-n.ensures c.next_digits-d.ensures c.tag_of-t.ensures) c.next_mark-m.result c.next_mark-m.ensures c.next_near-g.result c.next_near-g.ensures c.if-body-g.false) (next-as _ _ c.next_len-n.result c.next_digits-d.result.now c.tag_of-t.result c.next_len-n.ensures c.next_digits-d.ensures c.tag_of-t.ensures) c.taken_at-k.result c.taken_at-k.ensures c.byte_at-b.result c.byte_at-b.ensures c.if-k-b.false c.find_byte-e.result c.find_byte-e.ensures c.if-e-body.false c.lead_on-c.result c.lead_on-c.ensures
