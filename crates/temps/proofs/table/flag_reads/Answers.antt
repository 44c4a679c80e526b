use Rattle.std.proofs.Common.{sym, ◌∙◌}
use Rattle.reading.proofs.AssignLaws.{assign-split, assign-not}
use Rattle.lines.proofs.Tests.{so}
use Rattle.temps.proofs.TableLaws.{reads-binding, reads-store, reads-free}
use Rattle.temps.proofs.table.flag_reads.Goals as goal

pub returns-then-is_binding : goal.returns-then-is_binding
returns-then-is_binding c = reads-binding _ _ _ (so c.is_binding.ensures c.if-is_binding.true)

pub returns-in-Some : goal.returns-in-Some
returns-in-Some c = let a = c.args in let w = assign-split a.t.now _ (sym c.in-Some.ensures) in c.flag_runs.ensures ∙ reads-store a.own.now a.t.now a.table.now (so c.is_binding.ensures c.if-is_binding.false) c.left_of.result.now w.assigns (c.left_of.ensures ∙ w.is-left)

pub returns-in-None : goal.returns-in-None
returns-in-None c = let a = c.args in c.flag_runs-in-None.ensures ∙ reads-free a.own.now a.t.now a.table.now (so c.is_binding.ensures c.if-is_binding.false) a.t.now (assign-not a.t.now (sym c.in-None.ensures))
