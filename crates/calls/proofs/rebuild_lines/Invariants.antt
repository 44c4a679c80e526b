use Rattle.calls.proofs.Downs.{Viewed}
use Rattle.calls.proofs.rebuild_lines.Given as goal

abbrev pub invariant-loop-n : goal.invariant-loop-n
invariant-loop-n l = Viewed l.text l.m l.blocks l.starts l.initial.owner l.initial.stack l.initial.cur l.initial.next l.owner l.stack l.cur l.next l.initial.recs l.recs l.past l.n l.o
