use Rattle.std.proofs.Common.{◌<◌, ◌∙◌, length, get_or, arith}
use Rattle.trails.proofs.Loops.{carry-out, carry-end, carry-past, carry-goes, carry-stays, carry-at, sent-below}
use Rattle.trails.proofs.carry.Goals as goal
use Rattle.trails.proofs.carry.Goals.{then-raw-i-eq0+else-k-moves, then-d-ne0, else-d-ne0, else-raw-i-eq0}

pub returns-then-k-moves : goal.returns-then-k-moves
returns-then-k-moves c = carry-out c.loop-i.invariant (omega (arith, c.if-k-moves.true))

pub loop-i-preserved : goal.loop-i-preserved
loop-i-preserved c =
    let l = c.loop-i in
    let h = l.invariant in
    let a : l.i < length l.raw = omega (arith, h.long, c.loop-i-test.true) in
    elim c.if-raw-i-eq0.branch [
      | then-raw-i-eq0+else-k-moves w ↦
          let b : l.k < length c.args.moves.now = omega (arith, h.k≤, w.if-k-moves.false) in
          elim w.if-d-ne0.branch [
            | then-d-ne0 w' ↦ carry-at (carry-goes h a b w.if-raw-i-eq0.true w'.sent-s.result (sent-below l.raw l.i (get_or c.args.moves.now l.k 0) w'.sent-s.ensures)) (w.raw-is ∙ w'.raw-is) w.k-is
            | else-d-ne0 w' ↦ carry-at (carry-stays h a b w.if-raw-i-eq0.true w'.if-d-ne0.false) (w.raw-is ∙ w'.raw-is) w.k-is
          ]
      | else-raw-i-eq0 w ↦ carry-at (carry-past h a w.if-raw-i-eq0.false) w.raw-is w.k-is
    ]

pub returns : goal.returns
returns c = carry-end c.loop-i.invariant (omega (arith, c.loop-i.invariant.long, c.loop-i-test.false))
