use mathlib.Core.Path.{ap}
use native.Mathlib.Omega.{arith}
use lib.ListN.{drop, length-drop}
use Rattle.lexical.specs.declared.Token.{Token}
use Rattle.lexical.specs.Inner.Lex.{clean_step}
use Rattle.lexical.proofs.TokenLaws.{size-le}
use Rattle.lexical.proofs.LexLaws.{head_at}
use Rattle.lexical.proofs.step_at.Goals as goal

pub overflow_add-result : goal.overflow_add-result
overflow_add-result c = let a = c.args in let e = ap (λ (k : Token). k.size) c.token_at-token.ensures in omega (arith, e, size-le a.tail.last (drop a.i a.s.now), length-drop a.i a.s.now)

pub returns : goal.returns
unfolding clean_step
returns c = let a = c.args in rw (c.grow.ensures, c.byte_at-b.ensures, c.token_at-token.ensures, head_at a.s.now a.i)
