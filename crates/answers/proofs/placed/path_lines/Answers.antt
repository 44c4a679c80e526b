use native.Mathlib.Omega.{arith}
use Rattle.place.proofs.Rooms.{path-parents-text}
use Rattle.answers.proofs.Bounds.{lines-count}
use Rattle.answers.proofs.placed.path_lines.Goals as goal

pub block_paths-x-requires : goal.block_paths-x-requires
block_paths-x-requires c = let a = c.args.a.now in omega (arith, lines-count a, path-parents-text a)
