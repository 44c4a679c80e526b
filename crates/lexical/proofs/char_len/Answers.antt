use native.Mathlib.Omega.{arith}
use Rattle.lexical.specs.Idents.{char_len}
use Rattle.lexical.proofs.char_len.Goals as goal

pub returns-then-n-eq0 : goal.returns-then-n-eq0
unfolding char_len
returns-then-n-eq0 c = omega (arith, c.seq_at-n.ensures)

pub returns : goal.returns
unfolding char_len
returns c = omega (arith, c.seq_at-n.ensures)
