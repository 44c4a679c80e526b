use mathlib.Core.Bool.{not}
use mathlib.Core.Path.{sym, ap, ◌∙◌}
use Rattle.pruned.proofs.FitCode.{off, on, go-other, go-decl}
use Rattle.pruned.proofs.fit.may_go.Goals as goal

pub returns-then-not-up : goal.returns-then-not-up
returns-then-not-up c = off c.args.up _ (ap not c.if-not-up.true)

pub returns-then-byte_at-eq0 : goal.returns-then-byte_at-eq0
returns-then-byte_at-eq0 c = let s = c.args in on s.up (ap not c.if-not-up.false) (go-other s.line.now s.marks.now s.marks.now (sym c.byte_at.ensures ∙ c.if-byte_at-eq0.true))

pub returns : goal.returns
returns c = let s = c.args in on s.up (ap not c.if-not-up.false) (c.lacks.ensures ∙ go-decl s.line.now s.marks.now s.marks.now (λ e. c.if-byte_at-eq0.false (c.byte_at.ensures ∙ e)))
