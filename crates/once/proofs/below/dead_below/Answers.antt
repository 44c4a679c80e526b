use native.Mathlib.Omega.{arith}
use mathlib.Core.Path.{refl, sym, ap, ◌∙◌}
use Rattle.once.specs.Once.{dead_by}
use Rattle.once.proofs.Searches.{next_past, next-header, next-read, next-write, next-on, next-end}
use Rattle.lines.proofs.EachLaws.{at-front, goes, stops}
use Rattle.once.proofs.below.dead_below.Goals as goal

pub loop-line-init : goal.loop-line-init
loop-line-init c = let e = c.into_iter-line-iterator.ensures.into_iter_gives in let g = c.each-line-items.ensures in (at-front e g.text g.front, rw (e, g.front) refl)

pub returns-then-k-paths : goal.returns-then-k-paths
returns-then-k-paths c =
    let a = c.args in
    ap (dead_by a.p) (sym (next_past a.reg.0 a.text.now a.paths.now c.loop-line.line-iterator.at c.loop-line.k c.if-k-paths.true) ∙ c.loop-line.invariant.1)

pub returns-then-is_header : goal.returns-then-is_header
returns-then-is_header c = let k = goes c.loop-line.invariant.0 c.in-Some.ensures.steps in
    let a = c.args in
    ap (dead_by a.p) (sym (next-header a.reg.0 a.text.now a.paths.now c.loop-line.line-iterator.at c.in-Some.line.to c.loop-line.k k.here.starts k.here.to c.if-k-paths.false (sym (rw k.here.bytes at c.is_header.ensures) ∙ c.if-is_header.true)) ∙ c.loop-line.invariant.1)

pub returns-then-u-gt0 : goal.returns-then-u-gt0
returns-then-u-gt0 c = let k = goes c.loop-line.invariant.0 c.in-Some.ensures.steps in
    let a = c.args in
    ap (dead_by a.p) (sym (next-read a.reg.0 a.text.now a.paths.now c.loop-line.line-iterator.at c.in-Some.line.to c.loop-line.k k.here.starts k.here.to c.if-k-paths.false (sym (rw k.here.bytes at c.is_header.ensures) ∙ c.if-is_header.false) _ (rw k.here.bytes at c.use_of-u.ensures).0 c.if-u-gt0.true) ∙ c.loop-line.invariant.1)

pub offset_bounds-paths-k : goal.offset_bounds-paths-k
offset_bounds-paths-k c = omega (arith)

pub returns-then-u : goal.returns-then-u
returns-then-u c = let k = goes c.loop-line.invariant.0 c.in-Some.ensures.steps in
    let a = c.args in
    ap (dead_by a.p) (sym (next-write a.reg.0 a.text.now a.paths.now c.loop-line.line-iterator.at c.in-Some.line.to c.loop-line.k k.here.starts k.here.to c.if-k-paths.false (sym (rw k.here.bytes at c.is_header.ensures) ∙ c.if-is_header.false) _ (rw k.here.bytes at c.use_of-u.ensures).0 c.if-u-gt0.false (sym (rw k.here.bytes at c.use_of-u.ensures).1 ∙ c.if-u.true)) ∙ c.loop-line.invariant.1)

pub loop-line-preserved : goal.loop-line-preserved
loop-line-preserved c = let k = goes c.loop-line.invariant.0 c.in-Some.ensures.steps in let a = c.args in
    (k.on, sym (next-on a.reg.0 a.text.now a.paths.now c.loop-line.line-iterator.at c.in-Some.line.to c.loop-line.k k.here.starts k.here.to c.if-k-paths.false (sym (rw k.here.bytes at c.is_header.ensures) ∙ c.if-is_header.false) _ (rw k.here.bytes at c.use_of-u.ensures).0 c.if-u-gt0.false _ k.here.next (sym (rw k.here.bytes at c.use_of-u.ensures).1 ∙ c.if-u.false)) ∙ c.loop-line.invariant.1)

pub returns : goal.returns
returns c =
    let a = c.args in
    ap (dead_by a.p) (sym (next-end a.reg.0 a.text.now a.paths.now c.loop-line.line-iterator.at c.loop-line.k (stops c.loop-line.invariant.0 c.in-None.ensures.steps)) ∙ c.loop-line.invariant.1)
