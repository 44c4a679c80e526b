use Rattle.std.proofs.Common.{◌+◌, length, sym, ◌∙◌, arith, ne_eqb}
use Rattle.lines.proofs.Compare.{hold-empty, hold-here, hold-on, hold-up, hold-end}
use Rattle.lines.proofs.contains.Goals as goal

pub returns-then-p-eq0 : goal.returns-then-p-eq0
returns-then-p-eq0 c = let a = c.args in sym (hold-empty a.p.now a.s.now c.if-p-eq0.true)

pub loop-i-init : goal.loop-i-init
loop-i-init c = let a = c.args in hold-up a.p.now a.s.now 0 (omega arith) c.find_byte-i.result c.find_byte-i.ensures

pub returns-then-starts_with : goal.returns-then-starts_with
returns-then-starts_with c =
    let a = c.args in
    let l = c.loop-i in
    sym (hold-here a.p.now a.s.now l.i (sym c.starts_with.ensures ∙ c.if-starts_with.true)) ∙ l.invariant

pub loop-i-preserved : goal.loop-i-preserved
loop-i-preserved c =
    let a = c.args in
    let l = c.loop-i in
    hold-up a.p.now a.s.now (l.i + 1) (omega arith) c.find_byte-i-in-loop-i.result c.find_byte-i-in-loop-i.ensures
    ∙ sym (hold-on a.p.now a.s.now l.i c.loop-i-test.true (sym c.starts_with.ensures ∙ c.if-starts_with.false)) ∙ l.invariant

pub returns : goal.returns
returns c =
    let a = c.args in
    let l = c.loop-i in
    sym (hold-end a.p.now a.s.now l.i c.loop-i-test.false ∙ ne_eqb (length a.p.now) 0 (omega arith)) ∙ l.invariant
