use native.Mathlib.Omega.{arith}
use Rattle.place.proofs.Parents.{room_open, moved_open}
use Rattle.place.proofs.enter.Goals as goal

pub bounds-up-n : goal.bounds-up-n
bounds-up-n c = room_open c.requires

pub overflow_cast-result : goal.overflow_cast-result
overflow_cast-result c = omega (arith, room_open c.requires, c.requires.small)

pub returns : goal.returns
returns c = moved_open c.args.c c.args.up.now c.args.n (room_open c.requires)
