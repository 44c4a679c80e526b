use native.Mathlib.Omega.{arith}
use Rattle.decls.proofs.MarkRuns.{from_start, from_on, from_end}
use Rattle.decls.proofs.seen.mark_runs.Goals as goal

pub loop-i-init : goal.loop-i-init
loop-i-init c = let a = c.args in from_start a.own.now a.m a.s.now a.seen.now

pub loop-i-smaller : goal.loop-i-smaller
loop-i-smaller c = omega (arith, c.after-i.ensures, c.find_byte-j.ensures, c.loop-i-test.true)

pub loop-i-preserved : goal.loop-i-preserved
loop-i-preserved c = from_on c.loop-i.invariant c.find_byte-j.result c.after-i.result _ c.loop-i-test.true c.find_byte-j.ensures c.mark_at.ensures c.after-i.ensures

pub shape_of-seen : goal.shape_of-seen
shape_of-seen c = c.loop-i.invariant.long

pub returns : goal.returns
returns c = from_end c.loop-i.invariant c.loop-i-test.false
