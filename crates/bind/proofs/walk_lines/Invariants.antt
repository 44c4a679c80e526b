use Rattle.bind.proofs.Turns.{Viewed}
use Rattle.bind.proofs.walk_lines.Given as goal

abbrev pub invariant-loop-k : goal.invariant-loop-k
invariant-loop-k l = Viewed l.own l.text l.ends l.n l.blocks l.starts l.initial.seen l.initial.first l.initial.marks l.initial.out l.seen l.first l.marks l.out l.initial.recs l.recs l.c.0 l.s l.past l.k l.o
