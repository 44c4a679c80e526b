use mathlib.Core.Path.{sym, ◌∙◌}
use native.Mathlib.Omega.{arith}
use Rattle.lexical.proofs.MildLaws.{tame-on}
use Rattle.lexical.proofs.plain_end.Goals as goal

pub loop-j-preserved : goal.loop-j-preserved
loop-j-preserved c =
    let l = c.loop-j in
    tame-on c.args.s.now l.j (omega arith) (sym c.tame_eight.ensures ∙ c.if-tame_eight.true) ∙ l.invariant

pub returns-else-tame_eight : goal.returns-else-tame_eight
returns-else-tame_eight c = c.plain_one-else-tame_eight.ensures ∙ c.loop-j.invariant

pub returns : goal.returns
returns c = c.plain_one-2.ensures ∙ c.loop-j.invariant
