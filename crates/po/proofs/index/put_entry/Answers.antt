use mathlib.Core.Path.{sym}
use native.Mathlib.Omega.{arith}
use lib.Seq.{set_out}
use Rattle.po.proofs.index.put_entry.Goals as goal

pub returns-then-own-i : goal.returns-then-own-i
returns-then-own-i c = let a = c.args in sym (set_out a.own.now a.i a.v (omega (arith, c.if-own-i.true)))

pub bounds-own-i : goal.bounds-own-i
bounds-own-i c = omega (arith, c.if-own-i.false)
