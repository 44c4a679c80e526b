use Rattle.calls.proofs.Rows.{Upward}
use Rattle.calls.proofs.later.note_up.Given as goal

abbrev pub invariant-loop-k : goal.invariant-loop-k
invariant-loop-k l = Upward l.own l.text l.initial.near l.initial.stores l.initial.notes l.near l.stores l.notes l.k l.h
