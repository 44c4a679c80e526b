use native.Mathlib.Omega.{arith}
use mathlib.Core.Path.{refl}
use lib.ListN.{get_or}
use Rattle.parse.proofs.Plain.{digits-here, digits-on, digit-test}
use Rattle.parse.proofs.Shut.{digit-open, not_last}
use Rattle.parse.proofs.digits_to.Goals as goal

pub loop-j-init : goal.loop-j-init
loop-j-init c = (c.requires.0, refl)

pub bounds-t-j : goal.bounds-t-j
bounds-t-j c = omega (arith, c.loop-j.invariant.0)

pub bounds-t-j-in-loop-j : goal.bounds-t-j-in-loop-j
bounds-t-j-in-loop-j c = omega (arith, c.loop-j.invariant.0)

pub returns-then-t-j : goal.returns-then-t-j
returns-then-t-j c = let l = c.loop-j in let t = c.args.t.now in (omega (arith, l.invariant.1, digits-here t l.j l.invariant.0 (digit-test (get_or t l.j 0) _ c.if-t-j.true)), l.invariant.0)

pub overflow_add-j : goal.overflow_add-j
overflow_add-j c = omega (arith, c.loop-j.invariant.0)

pub loop-j-smaller : goal.loop-j-smaller
loop-j-smaller c = omega (arith, c.loop-j.invariant.0)

pub loop-j-preserved : goal.loop-j-preserved
loop-j-preserved c = let l = c.loop-j in let t = c.args.t.now in let d = digit-test (get_or t l.j 0) _ c.if-t-j.false in (not_last t c.requires.1 l.j l.invariant.0 (digit-open (get_or t l.j 0) d), omega (arith, l.invariant.1, digits-on t l.j l.invariant.0 d))
