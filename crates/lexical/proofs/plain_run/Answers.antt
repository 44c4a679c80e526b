use Prim.Native.Nat.{ℕ}
use mathlib.Core.Path.{ap, ◌∙◌}
use Rattle.lines.specs.Lf.{part}
use Rattle.lexical.specs.Inner.Lex.{grown}
use Rattle.lexical.proofs.plain_run.Goals as goal

pub returns : goal.returns
returns c = let g = c.args in (c.plain_end-j.ensures, c.run_tail.ensures ∙ ap (λ (j : ℕ). grown g.t (part g.i j g.s.now)) c.plain_end-j.ensures)
