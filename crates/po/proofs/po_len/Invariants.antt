use Prim.Native.Nat.{◌-◌}
use mathlib.Core.Path.{◌≡◌}
use lib.ListN.{length, take}
use Rattle.po.specs.Found.{literals}
use Rattle.po.specs.Inner.Walk.{texts}
use Rattle.po.specs.Inner.Index.{Tells}
use Rattle.po.proofs.LoopLaws.{LengthInv}
use Rattle.po.proofs.po_len.Given as goal

abbrev pub invariant-loop-c : goal.invariant-loop-c
invariant-loop-c l = (LengthInv l.name l.t l.n l.k l.c) × ((length l.own ≡ length l.initial.own) × (Tells l.t l.own (take l.k (texts (literals l.t)))))

abbrev pub decreases-loop-c : goal.decreases-loop-c
decreases-loop-c l = length l.t - l.c.at
