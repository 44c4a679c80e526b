use Rattle.po.specs.Inner.ReadWalk.{met}
use Prim.Native.Nat.{◌-◌, ◌≤◌}
use mathlib.Core.Path.{◌≡◌}
use lib.ListN.{length, take, drop}
use Rattle.lines.specs.Lf.{parts_of}
use Rattle.po.specs.Found.{decoded}
use Rattle.po.specs.Inner.ReadWalk.{met}
use Rattle.po.proofs.reader.is_above.Given as goal

abbrev pub invariant-loop : goal.invariant-loop
invariant-loop l = (l.i ≤ length l.file) × (((l.w ≤ 6) × (met l.w (take (l.k - l.counter) (parts_of 10 (drop l.i l.file))) (decoded l.s 34) ≡ met 0 (take l.k (parts_of 10 l.file)) (decoded l.s 34))))
