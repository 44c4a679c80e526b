use Prim.Native.Nat.{ℕ}
use mathlib.Core.Bool.{false}
use native.Mathlib.Omega.{arith}
use lib.ListN.{length-replicate}
use Rattle.place.proofs.Rooms.{ids-parents-text}
use Rattle.answers.proofs.Bounds.{lines-count}
use Rattle.answers.proofs.placed.place_lines.Goals as goal

pub place_lines-requires : goal.place_lines-requires
place_lines-requires c = let a = c.args.a.now in omega (arith, lines-count a, ids-parents-text false a, length-replicate {A = ℕ} 4096 0)
