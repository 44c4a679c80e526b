use native.Mathlib.Omega.{arith}
use Rattle.origins.proofs.Walks.{bare-empty, bare-open, bare-cut, bare-kept}
use Rattle.origins.proofs.bare_end.Goals as goal

pub returns-then-e-i : goal.returns-then-e-i
returns-then-e-i c = let a = c.args in bare-empty a.text.now a.i a.e c.requires.0 c.requires.1 c.if-e-i.true

pub returns-then-text-e-ne13 : goal.returns-then-text-e-ne13
returns-then-text-e-ne13 c = let a = c.args in bare-kept a.text.now a.i a.e c.requires.0 c.requires.1 (omega (arith, c.if-e-i.false)) c.if-text-e-ne13.true

pub returns-then-text-e : goal.returns-then-text-e
returns-then-text-e c = let a = c.args in bare-open a.text.now a.i a.e c.requires.0 c.requires.1 c.if-text-e.true

pub returns : goal.returns
returns c = let a = c.args in bare-cut a.text.now a.i a.e c.requires.0 c.requires.1 (omega (arith, c.if-e-i.false)) (omega (arith, c.if-text-e.false)) c.if-text-e-ne13.false
