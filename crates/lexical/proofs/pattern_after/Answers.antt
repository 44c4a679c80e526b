use mathlib.Core.Path.{sym}
use native.Mathlib.Omega.{arith}
use borrow.Author.Tests.{ne_eqb}
use Rattle.lexical.proofs.TokenLaws.{opens-above}
use Rattle.lexical.proofs.pattern_after.Goals as goal

pub returns-then-last-eq256 : goal.returns-then-last-eq256
returns-then-last-eq256 c = rw c.if-last-eq256.true

pub returns-then-last-lt256 : goal.returns-then-last-lt256
returns-then-last-lt256 c = rw (ne_eqb c.args.last 256 c.if-last-eq256.false) c.opens_pattern.ensures

pub returns : goal.returns
returns c = sym (opens-above c.args.last (omega arith))
