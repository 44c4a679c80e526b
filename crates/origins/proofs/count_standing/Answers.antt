use native.Mathlib.Omega.{arith}
use native.Mathlib.Nat.{zero-add}
use Rattle.origins.proofs.TableLaws.{standing_here, standing_on, standing-end}
use Rattle.origins.proofs.count_standing.Goals as goal

pub loop-i-init : goal.loop-i-init
loop-i-init c = (omega arith, (omega arith, zero-add _))

pub loop-i-preserved-then-moves-i-eq0 : goal.loop-i-preserved-then-moves-i-eq0
loop-i-preserved-then-moves-i-eq0 c = let a = c.args in let l = c.loop-i in (omega arith, (omega arith, omega (arith, standing_here a.moves.now l.i (omega arith) c.if-moves-i-eq0.true, l.invariant.1.1)))

pub loop-i-preserved : goal.loop-i-preserved
loop-i-preserved c = let a = c.args in let l = c.loop-i in (omega arith, (omega arith, omega (arith, standing_on a.moves.now l.i (omega arith) c.if-moves-i-eq0.false, l.invariant.1.1)))

pub returns : goal.returns
returns c = let a = c.args in let l = c.loop-i in omega (arith, standing-end a.moves.now l.i c.loop-i-test.false, l.invariant.1.1)
