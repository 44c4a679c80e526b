use lib.ListN.{get_or}
use Rattle.origins.proofs.TableLaws.{line-stands, line-goes, line-down}
use Rattle.origins.proofs.land_line.Goals as goal

pub overflow_sub-moves : goal.overflow_sub-moves
overflow_sub-moves c = c.requires.1 c.if-d-eq0.true

pub overflow_sub-result : goal.overflow_sub-result
overflow_sub-result c = c.requires.1 c.if-d-eq0.true

pub returns-then-d-eq0 : goal.returns-then-d-eq0
returns-then-d-eq0 c =
    let a = c.args in
    let whole = line-stands a.moves.now a.k a.s _ c.if-d-eq0.true in
    record { answer = whole.0; memory = whole.1 }

pub returns : goal.returns
returns c =
    let a = c.args in
    let whole = line-goes a.moves.now a.k a.s c.land_at-c.result _ c.if-d-eq0.false (line-down a.moves.now a.k _ (get_or a.moves.now a.k 0) c.land_at-c.ensures) in
    record { answer = whole.0; memory = whole.1 }
