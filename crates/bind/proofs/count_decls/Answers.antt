use native.Mathlib.Omega.{arith}
use mathlib.Core.Path.{refl}
use Rattle.bind.proofs.CountLaws.{decls-on, decls-end}
use Rattle.lines.proofs.EachLaws.{at-front, goes, stops}
use Rattle.bind.proofs.count_decls.Goals as goal

pub loop-line-init : goal.loop-line-init
loop-line-init c = let e = c.into_iter-line-iterator.ensures.into_iter_gives in let g = c.each-line-items.ensures in (at-front e g.text g.front, rw (e, g.front) ((c.requires, refl)))

pub line_decls-m-requires : goal.line_decls-m-requires
line_decls-m-requires c = c.loop-line.invariant.1.0

pub loop-line-preserved : goal.loop-line-preserved
loop-line-preserved c = let k = goes c.loop-line.invariant.0 c.in-Some.ensures.steps in (k.on, (omega (arith, c.line_decls-m.ensures), omega (arith, c.line_decls-m.ensures, decls-on c.args.reg.0 c.args.text.now c.loop-line.line-iterator.at c.in-Some.line.to _ k.here.starts k.here.to k.here.next c.in-Some.line.bytes.now k.here.bytes, c.loop-line.invariant.1.1)))

pub returns : goal.returns
returns c = omega (arith, c.loop-line.invariant.1.0, decls-end c.args.reg.0 c.args.text.now c.loop-line.line-iterator.at (stops c.loop-line.invariant.0 c.in-None.ensures.steps), c.loop-line.invariant.1.1)
