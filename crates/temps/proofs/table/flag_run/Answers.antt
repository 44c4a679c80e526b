use Rattle.std.proofs.Common.{sym, ◌∙◌}
use Rattle.temps.proofs.TableLaws.{run-empty, run-free, run-left, run-other}
use Rattle.temps.proofs.table.flag_run.Goals as goal

pub returns-then-r-eq0 : goal.returns-then-r-eq0
returns-then-r-eq0 c =
    let a = c.args in
    let whole = run-empty a.own.now a.left.now a.r.now a.table.now a.skip c.if-r-eq0.true in
    record { answer = whole.0; memory = whole.1 }

pub returns-then-not-skip : goal.returns-then-not-skip
returns-then-not-skip c =
    let a = c.args in
    let s = run-free a.own.now a.left.now a.r.now a.table.now a.skip c.if-not-skip.true c.if-r-eq0.false in
    record { answer = s.0; memory = c.flag_temp.ensures ∙ s.1 }

pub returns-then-same : goal.returns-then-same
returns-then-same c =
    let a = c.args in
    let whole = run-left a.own.now a.left.now a.r.now a.table.now a.skip c.if-not-skip.false c.if-r-eq0.false (sym c.same.ensures ∙ c.if-same.true) in
    record { answer = whole.0; memory = whole.1 }

pub returns : goal.returns
returns c =
    let a = c.args in
    let s = run-other a.own.now a.left.now a.r.now a.table.now a.skip c.if-not-skip.false c.if-r-eq0.false (sym c.same.ensures ∙ c.if-same.false) in
    record { answer = s.0; memory = c.flag_temp-2.ensures ∙ s.1 }
