use native.Mathlib.Omega.{arith}
use Rattle.decls.proofs.mark_uses.Goals as goal

pub mark_once-k-requires : goal.mark_once-k-requires
mark_once-k-requires c = (c.requires, λ k. absurd (omega arith))
