use Rattle.phis.proofs.TableLaws.{RunsInv}
use Rattle.phis.proofs.table.note_runs.Given as goal

abbrev pub invariant-loop-i : goal.invariant-loop-i
invariant-loop-i l = RunsInv l.own l.stored l.s l.initial.table l.table l.a l.i
