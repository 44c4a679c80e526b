use Prim.Native.Nat.{ℕ}
use native.Mathlib.Omega.{arith}
use mathlib.Core.Path.{◌≡◌, sym, ap}
use lib.Dec.{eqb}
use Rattle.lines.specs.Lf.{lines_of}
use Rattle.once.specs.Once.{read_count}
use Rattle.once.proofs.Searches.{count-on, count-many, count-end}
use Rattle.lines.proofs.EachLaws.{at-front, goes, stops}
use Rattle.once.proofs.read_once.Goals as goal

pub loop-line-init : goal.loop-line-init
loop-line-init c = let e = c.into_iter-line-iterator.ensures.into_iter_gives in let g = c.each-line-items.ensures in (at-front e g.text g.front, rw (e, g.front) ((omega arith, omega arith)))

pub returns-then-u-gt1 : goal.returns-then-u-gt1
returns-then-u-gt1 c = let k = goes c.loop-line.invariant.0 c.in-Some.ensures.steps in
    let a = c.args in
    sym (count-many a.reg.0 a.text.now c.loop-line.line-iterator.at c.in-Some.line.to k.here.starts k.here.to _ (rw k.here.bytes at c.use_of-u.ensures).0 c.loop-line.n (omega arith) c.loop-line.invariant.1.1)

pub returns-then-n-gt1 : goal.returns-then-n-gt1
returns-then-n-gt1 c = let k = goes c.loop-line.invariant.0 c.in-Some.ensures.steps in
    let a = c.args in
    sym (count-many a.reg.0 a.text.now c.loop-line.line-iterator.at c.in-Some.line.to k.here.starts k.here.to _ (rw k.here.bytes at c.use_of-u.ensures).0 c.loop-line.n c.if-n-gt1.true c.loop-line.invariant.1.1)

pub loop-line-preserved : goal.loop-line-preserved
loop-line-preserved c = let k = goes c.loop-line.invariant.0 c.in-Some.ensures.steps in let a = c.args in
    (k.on, (omega arith, omega (arith, c.loop-line.invariant.1.1, count-on a.reg.0 a.text.now c.loop-line.line-iterator.at c.in-Some.line.to k.here.starts k.here.to _ (rw k.here.bytes at c.use_of-u.ensures).0 _ k.here.next)))

pub returns : goal.returns
returns c =
    let a = c.args in
    let q : c.loop-line.n ≡ read_count a.reg.0 (lines_of a.text.now) = omega (arith, c.loop-line.invariant.1.1, count-end a.reg.0 a.text.now c.loop-line.line-iterator.at (stops c.loop-line.invariant.0 c.in-None.ensures.steps)) in
    ap (λ (n : ℕ). eqb n 1) q
