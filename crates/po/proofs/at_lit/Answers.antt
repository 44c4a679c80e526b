use mathlib.Core.Path.{refl}
use borrow.Author.Tests.{lt-ltb, le-ltb}
use Rattle.po.proofs.at_lit.Goals as goal

pub returns-then-c : goal.returns-then-c
returns-then-c c = rw (lt-ltb _ _ c.if-c.true, c.byte_at-x.ensures) refl

pub returns : goal.returns
returns c = rw (le-ltb _ _ c.if-c.false) refl
