use native.Mathlib.Omega.{arith}
use mathlib.Core.Path.{sym, ◌∙◌}
use Rattle.words.specs.Hits.{replaced_at}
use Rattle.lines.proofs.OutLaws.{wrote_as, wrote_then, wrote-length}
use Rattle.once.proofs.Writes.{fits-as, line-is, line-long, into_one, into-not}
use Rattle.once.proofs.put_into.Goals as goal

pub put_replaced-p-requires : goal.put_replaced-p-requires
put_replaced-p-requires c =
    let a = c.args in
    let w = c.in-Some.w in
    let h = fits-as a.o (into_one a.reg.0 a.line.now a.x.now w (sym c.find_reg.ensures ∙ c.in-Some.is)) c.requires in
    omega (arith, h, line-long (replaced_at w.from w.to a.line.now a.x.now))

pub put_byte-requires : goal.put_byte-requires
put_byte-requires c =
    let a = c.args in
    let w = c.in-Some.w in
    let h = fits-as a.o (into_one a.reg.0 a.line.now a.x.now w (sym c.find_reg.ensures ∙ c.in-Some.is)) c.requires in
    omega (arith, h, line-long (replaced_at w.from w.to a.line.now a.x.now), c.put_replaced-p.ensures.place, wrote-length c.put_replaced-p.ensures)

pub put_line-requires : goal.put_line-requires
put_line-requires c =
    let a = c.args in
    fits-as a.o (line-is _ ∙ into-not a.reg.0 a.line.now a.x.now (sym c.find_reg.ensures ∙ c.in-None.is)) c.requires

pub returns-in-Some : goal.returns-in-Some
returns-in-Some c =
    let a = c.args in
    let w = c.in-Some.w in
    wrote_as (line-is _ ∙ into_one a.reg.0 a.line.now a.x.now w (sym c.find_reg.ensures ∙ c.in-Some.is)) (wrote_then c.put_replaced-p.ensures c.put_byte.ensures)

pub returns-in-None : goal.returns-in-None
returns-in-None c =
    let a = c.args in
    wrote_as (line-is _ ∙ into-not a.reg.0 a.line.now a.x.now (sym c.find_reg.ensures ∙ c.in-None.is)) c.put_line.ensures
