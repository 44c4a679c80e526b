use mathlib.Core.Path.{sym, ◌∙◌}
use Rattle.lines.proofs.Tests.{so}
use Rattle.decls.proofs.LineRuns.{line-decl-marked, line-runs-marked}
use Rattle.decls.proofs.seen.mark_line.Goals as goal

pub returns-then-declares : goal.returns-then-declares
returns-then-declares c =
    let a = c.args in
    let d = so c.declares.ensures c.if-declares.true in
    record { answer = sym d; memory = line-decl-marked a.own.now a.m a.line.now a.seen.now d }

pub returns : goal.returns
returns c =
    let a = c.args in
    let d = so c.declares.ensures c.if-declares.false in
    record { answer = sym d; memory = c.mark_runs.ensures ∙ line-runs-marked a.own.now a.m a.line.now a.seen.now d }
