use native.Mathlib.Omega.{arith}
use mathlib.Core.Path.{sym, ap}
use lib.ListN.{length, length-append}
use Rattle.lines.proofs.OutLaws.{wrote_then, wrote_as, wrote-length}
use Rattle.po.specs.Inner.Walk.{head_text, body_text}
use Rattle.po.proofs.LoopLaws.{po-text}
use Rattle.po.proofs.put_po.Goals as goal

pub put_head-o-requires : goal.put_head-o-requires
put_head-o-requires c = let a = c.args in omega (arith, c.requires, ap length (po-text a.name.now a.t.now), length-append head_text (body_text a.name.now a.t.now))

pub put_body-requires : goal.put_body-requires
put_body-requires c = let a = c.args in let w = c.put_head-o in omega (arith, c.requires, ap length (po-text a.name.now a.t.now), length-append head_text (body_text a.name.now a.t.now), w.ensures.place, wrote-length w.ensures)

pub returns : goal.returns
returns c = let a = c.args in wrote_as (sym (po-text a.name.now a.t.now)) (wrote_then c.put_head-o.ensures c.put_body.ensures)
