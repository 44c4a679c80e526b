use native.Mathlib.Omega.{arith}
use mathlib.Core.Path.{refl, ap, ◌∙◌}
use lib.ListN.{length}
use Rattle.lines.proofs.OutLaws.{wrote_as}
use Rattle.slots.proofs.SlotLaws.{wiped-zeros}
use Rattle.calls.proofs.Wipes.{rebuilt-text}
use Rattle.calls.proofs.rebuild_with.Goals as goal

pub rebuild_window-o-requires : goal.rebuild_window-o-requires
rebuild_window-o-requires c = let q = c.requires in let p = q.0 in (p.0, (p.1.0, (p.1.1.0, (p.1.1.1.0, (p.1.1.1.1.0, q.1)))))

pub cut-requires : goal.cut-requires
cut-requires c = tt

pub put-r-requires : goal.put-r-requires
put-r-requires c = let r = c.rebuild_window-o.ensures in omega (arith, ap length (rebuilt-text r c.cut.result.now c.cut.ensures), c.requires.0.1.1.1.1.1)

pub shape_of-owner : goal.shape_of-owner
shape_of-owner c = c.rebuild_window-o.auto.owner

pub shape_of-stack : goal.shape_of-stack
shape_of-stack c = c.wipe.auto.s ∙ c.rebuild_window-o.auto.stack

pub shape_of-cur : goal.shape_of-cur
shape_of-cur c = c.wipe-2.auto.s ∙ c.rebuild_window-o.auto.cur

pub shape_of-next : goal.shape_of-next
shape_of-next c = c.wipe-3.auto.s ∙ c.rebuild_window-o.auto.next

pub shape_of-out : goal.shape_of-out
shape_of-out c = c.put-r.auto.out

pub returns : goal.returns
returns c =
    record { answer = wrote_as (rebuilt-text c.rebuild_window-o.ensures c.cut.result.now c.cut.ensures) c.put-r.ensures; owners = c.rebuild_window-o.ensures.owners; scratch = (wiped-zeros refl c.rebuild_window-o.auto.stack c.wipe.ensures, (wiped-zeros refl c.rebuild_window-o.auto.cur c.wipe-2.ensures, wiped-zeros refl c.rebuild_window-o.auto.next c.wipe-3.ensures)) }
