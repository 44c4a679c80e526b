use mathlib.Core.Path.{sym, ap}
use mathlib.Core.Bool.{Bool, not}
use lib.Dec.{ltb}
use borrow.Author.Tests.{ltb-true}
use Rattle.lines.proofs.Tests.{and_left, and_right}
use Rattle.text.proofs.Whites.{ascii-dark}
use Rattle.lexical.proofs.is_dark.Goals as goal

pub returns-then-b : goal.returns-then-b
returns-then-b c =
    let b = c.args.b in
    sym (ap (λ (t : Bool). not t) (ascii-dark b (ltb-true 32 b (and_left (ltb 32 b) (ltb b 128) c.if-b.true)) (ltb-true b 128 (and_right (ltb 32 b) (ltb b 128) c.if-b.true))))

pub returns : goal.returns
returns c = ap (λ (t : Bool). not t) c.is_white.ensures
