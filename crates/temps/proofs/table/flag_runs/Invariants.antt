use Rattle.temps.proofs.TableLaws.{RunsInv}
use Rattle.temps.proofs.table.flag_runs.Given as goal

abbrev pub invariant-loop-i : goal.invariant-loop-i
invariant-loop-i l = RunsInv l.own l.left l.s l.initial.table l.table l.k l.skip l.a l.i
