use Prim.Native.Nat.{◌-◌}
use mathlib.Core.Path.{◌≡◌}
use lib.ListN.{length, take}
use Rattle.po.specs.Found.{literals}
use Rattle.po.specs.Inner.Walk.{texts}
use Rattle.po.specs.Inner.Index.{Tells}
use Rattle.po.proofs.LoopLaws.{FileInv}
use Rattle.po.proofs.put_body.Given as goal

abbrev pub invariant-loop-c : goal.invariant-loop-c
invariant-loop-c l = (FileInv l.name l.t l.a l.initial.out l.out l.o l.k l.c) × ((length l.own ≡ length l.initial.own) × (Tells l.t l.own (take l.k (texts (literals l.t)))))

abbrev pub decreases-loop-c : goal.decreases-loop-c
decreases-loop-c l = length l.t - l.c.at
