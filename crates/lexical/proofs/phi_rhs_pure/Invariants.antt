use Rattle.std.proofs.Common.{◌≡◌}
use Rattle.lexical.proofs.PhiLaws.{PhiInv}
use Rattle.lexical.proofs.phi_rhs_pure.Given as goal

abbrev pub invariant-loop-token : goal.invariant-loop-token
invariant-loop-token l = let it = l.token-iterator in (it.text.now ≡ l.s) × PhiInv l.s it.at it.tail l.seen
