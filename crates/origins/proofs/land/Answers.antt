use Rattle.origins.proofs.TableLaws.{land-start, land-long, land-some-at, land-on-at, land-end}
use native.Mathlib.Omega.{arith}
use Rattle.origins.proofs.land.Goals as goal

pub loop-k-init : goal.loop-k-init
loop-k-init c = land-start _ _ c.count_standing-n.ensures

pub land_line-s-requires : goal.land_line-s-requires
land_line-s-requires c = let l = c.loop-k in (omega (arith, c.loop-k-test.true, l.invariant.k≤, land-long l.invariant), land-some-at _ _ l.k l.s l.invariant c.loop-k-test.true)

pub loop-k-preserved : goal.loop-k-preserved
loop-k-preserved c = let l = c.loop-k in land-on-at _ _ l.k l.s l.invariant c.loop-k-test.true _ _ c.land_line-s.ensures.answer c.land_line-s.ensures.memory

pub returns-clause-memory : goal.returns-clause-memory
returns-clause-memory c = land-end _ _ c.loop-k.k c.loop-k.s c.loop-k.invariant (omega (arith, c.loop-k-test.false))
