use native.Mathlib.Omega.{arith}
use Rattle.once.proofs.CalmLaws.{calm-nothing}
use Rattle.once.proofs.below.is_scratch.Goals as goal

pub scratch_at-requires : goal.scratch_at-requires
scratch_at-requires c = ((λ q. absurd (omega arith), λ q. absurd (omega arith)), calm-nothing _)
