use borrow.Author.Tests.{eq-eqb, ne_eqb}
use mathlib.Core.Path.{refl, ap}
use mathlib.Core.Bool.{not}
use Rattle.calls.proofs.StepLaws.{and_no, and_yes}
use Rattle.calls.proofs.may_go.Goals as goal

pub returns-then-blocks-k : goal.returns-then-blocks-k
returns-then-blocks-k c = and_yes (ap not c.if-over.false) (and_no _ (ne_eqb _ _ c.if-blocks-k.true))

pub returns : goal.returns
returns c = and_yes (ap not c.if-over.false) (and_yes (eq-eqb _ _ c.if-blocks-k.false) refl)
