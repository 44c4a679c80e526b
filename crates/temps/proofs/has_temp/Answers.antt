use Rattle.std.proofs.Common.{sym, ◌∙◌, arith}
use Rattle.temps.proofs.Lacks.{seen-new, seen-old, seen_none, seen_end}
use Rattle.temps.proofs.has_temp.Goals as goal
use Rattle.temps.proofs.has_temp.Goals.{then-x-least, else-x-least}

pub returns-then-s-eq0 : goal.returns-then-s-eq0
returns-then-s-eq0 c = sym (seen_none c.args.s.now 0 0 (omega (arith, c.if-s-eq0.true)))

pub loop-i-preserved : goal.loop-i-preserved
loop-i-preserved c =
    let a = c.args in
    let l = c.loop-i in
    let x = c.after_t-x in
    elim c.if-x-least.branch [
      | then-x-least w ↦ rw w.least-is (seen-new a.s.now l.i l.least x.result (omega arith) x.ensures w.if-x-least.true ∙ l.invariant)
      | else-x-least w ↦ rw w.least-is (seen-old a.s.now l.i l.least x.result (omega arith) x.ensures w.if-x-least.false ∙ l.invariant)
    ]

pub returns : goal.returns
returns c = seen_end c.args.s.now c.loop-i.i c.loop-i.least (omega arith) ∙ c.loop-i.invariant
