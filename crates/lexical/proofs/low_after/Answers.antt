use mathlib.Core.Path.{sym, ap}
use mathlib.Core.Bool.{Bool, cond}
use borrow.Author.Tests.{not-true, not-false}
use Rattle.text.specs.White.{is_white}
use Rattle.lines.proofs.Tests.{so}
use Rattle.lexical.proofs.low_after.Goals as goal

pub returns-then-is_dark : goal.returns-then-is_dark
returns-then-is_dark c = sym (ap (λ (t : Bool). cond t c.args.last c.args.b) (not-true (is_white c.args.b) (so c.is_dark.ensures c.if-is_dark.true)))

pub returns : goal.returns
returns c = sym (ap (λ (t : Bool). cond t c.args.last c.args.b) (not-false (is_white c.args.b) (so c.is_dark.ensures c.if-is_dark.false)))
