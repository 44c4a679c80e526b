use Rattle.std.proofs.Common.{◌≡◌, ◌-◌, ◌≤◌, max, length, drop}
use Rattle.lexical.specs.Lex.{quote_shut}
use Rattle.lexical.proofs.EndLaws.{ends, quotes}
use Rattle.lexical.proofs.quote_close.Given as goal

abbrev pub invariant-loop-j : goal.invariant-loop-j
invariant-loop-j l = record {
  on : l.i ≤ l.j;
  inside : l.j ≤ max l.i (length l.s);
  shut : quote_shut (drop l.j l.s) l.q ≡ quote_shut (drop l.i l.s) l.q;
  len : ends (quotes l.q) l.s l.j ≡ ends (quotes l.q) l.s l.i;
}

abbrev pub decreases-loop-j : goal.decreases-loop-j
decreases-loop-j l = length l.s - l.j
