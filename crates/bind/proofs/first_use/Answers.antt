use native.Mathlib.Omega.{arith}
use Prim.Native.Nat.{ℕ}
use lib.ListN.{length, drop}
use Rattle.lines.specs.Lf.{lines_of}
use mathlib.Core.Path.{◌≡◌, ap, refl, sym, ◌∙◌}
use Rattle.bind.proofs.CountLaws.{use-hit, use-on, use-end, rows_on}
use Rattle.lines.proofs.EachLaws.{at-front, goes, stops}
use Rattle.bind.proofs.first_use.Goals as goal

pub loop-line-init : goal.loop-line-init
loop-line-init c = let e = c.into_iter-line-iterator.ensures.into_iter_gives in let g = c.each-line-items.ensures in (at-front e g.text g.front, rw (e, g.front) ((omega arith, (omega arith, refl))))

pub returns-then-line_uses : goal.returns-then-line_uses
returns-then-line_uses c = let k = goes c.loop-line.invariant.0 c.in-Some.ensures.steps in (omega (arith, c.loop-line.invariant.1.1.0, use-hit c.args.reg.0 c.args.text.now c.loop-line.line-iterator.at c.in-Some.line.to _ k.here.starts k.here.to refl c.in-Some.line.bytes.now k.here.bytes (sym c.line_uses.ensures ∙ c.if-line_uses.true)), ap (λ (n : ℕ). lines_of (drop n c.args.text.now)) k.here.from ∙ c.loop-line.invariant.1.1.1)

pub loop-line-preserved : goal.loop-line-preserved
loop-line-preserved c = let k = goes c.loop-line.invariant.0 c.in-Some.ensures.steps in (k.on, (omega (arith, k.here.next, k.here.to, c.loop-line.invariant.1.0), (omega (arith, c.loop-line.invariant.1.1.0, use-on c.args.reg.0 c.args.text.now c.loop-line.line-iterator.at c.in-Some.line.to _ k.here.starts k.here.to k.here.next c.in-Some.line.bytes.now k.here.bytes (sym c.line_uses.ensures ∙ c.if-line_uses.false)), rows_on c.args.reg.0 c.args.text.now c.loop-line.line-iterator.at c.in-Some.line.to _ k.here.starts k.here.to k.here.next c.in-Some.line.bytes.now k.here.bytes c.loop-line.k c.loop-line.invariant.1.1.1)))

pub returns : goal.returns
returns c =
    let w = stops c.loop-line.invariant.0 c.in-None.ensures.steps in
    let e : length c.args.text.now ≡ c.loop-line.line-iterator.at = omega (arith, w, c.loop-line.invariant.0.at≤) in
    (omega (arith, c.loop-line.invariant.1.1.0, use-end c.args.reg.0 c.args.text.now c.loop-line.line-iterator.at w), ap (λ (n : ℕ). lines_of (drop n c.args.text.now)) e ∙ c.loop-line.invariant.1.1.1)
