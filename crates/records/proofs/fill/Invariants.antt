use Rattle.records.proofs.Shown.{WindowInv}
use Rattle.records.proofs.fill.Given as goal

abbrev pub invariant-loop-j : goal.invariant-loop-j
invariant-loop-j l = WindowInv l.ends l.blocks l.n l.k l.initial.recs l.recs l.m l.initial.i l.initial.c.0 l.i l.c.0 l.j
