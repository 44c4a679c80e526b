use Rattle.lines.proofs.Tests.{so}
use mathlib.Core.Bool.{not}
use mathlib.Core.Path.{sym, ap, ◌∙◌}
use Rattle.pruned.proofs.FitCode.{off, on, be-same, be-other, be-decl}
use Rattle.pruned.proofs.fit.may_be.Goals as goal

pub returns-then-not-was : goal.returns-then-not-was
returns-then-not-was c = off c.args.was _ (ap not c.if-not-was.true)

pub returns-then-same : goal.returns-then-same
returns-then-same c = let s = c.args in on s.was (ap not c.if-not-was.false) (be-same s.line.now s.marks.now s.p.now (so c.same.ensures c.if-same.true))

pub returns-then-byte_at-eq0 : goal.returns-then-byte_at-eq0
returns-then-byte_at-eq0 c = let s = c.args in on s.was (ap not c.if-not-was.false) (be-other s.line.now s.marks.now s.p.now (so c.same.ensures c.if-same.false) (sym c.byte_at.ensures ∙ c.if-byte_at-eq0.true))

pub returns : goal.returns
returns c = let s = c.args in on s.was (ap not c.if-not-was.false) (c.reprints.ensures ∙ be-decl s.line.now s.marks.now s.p.now (so c.same.ensures c.if-same.false) (λ e. c.if-byte_at-eq0.false (c.byte_at.ensures ∙ e)))
