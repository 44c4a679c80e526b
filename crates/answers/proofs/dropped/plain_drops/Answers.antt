use native.Mathlib.Omega.{arith}
use Rattle.answers.proofs.Bounds.{lines-count, rows-room, blocks-room}
use Rattle.answers.proofs.dropped.plain_drops.Goals as goal

pub plain_drops-requires : goal.plain_drops-requires
plain_drops-requires c = let a = c.args.a.now in let n = c.count_lines-n.ensures in let k = rows-room 4096 a (omega (arith, n, c.if-n-gt-ROWS.false)) in (k, (omega (arith, lines-count a, n, c.if-out-n.false), (k, (blocks-room 4096 a (omega (arith, c.count_byte.ensures, c.if-count_byte-gt-ROWS.false)), (omega arith, omega (arith, c.if-scratch-a.false))))))
