use Prim.Native.Nat.{◌-◌}
use mathlib.Core.Path.{◌≡◌}
use lib.ListN.{take}
use Rattle.po.specs.Found.{decoded, literals, known}
use Rattle.po.specs.Inner.Walk.{spots_from, Ready, texts}
use Rattle.po.proofs.is_known.Given as goal

abbrev pub invariant-loop : goal.invariant-loop
invariant-loop l = (Ready l.t l.c) × ((known (take (l.k - l.counter) (texts (spots_from l.t l.c))) (decoded l.s l.q) ≡ known (take l.k (texts (literals l.t))) (decoded l.s l.q)))
