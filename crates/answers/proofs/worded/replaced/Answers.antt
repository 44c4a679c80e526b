use native.Mathlib.Omega.{arith}
use Rattle.lines.proofs.OutLaws.{wrote-length}
use Rattle.answers.proofs.Bounds.{replaced-room}
use Rattle.answers.proofs.worded.replaced.Goals as goal

pub put_replaced-requires : goal.put_replaced-requires
put_replaced-requires c = let a = c.args in omega (arith, wrote-length c.put_byte-o.ensures, c.put_byte-o.ensures.place, replaced-room a.w.from a.w.to a.a.now a.b.now)
