use Prim.Native.Nat.{◌-◌}
use mathlib.Core.Path.{◌≡◌}
use lib.ListN.{length}
use Rattle.po.specs.Inner.ReadWalk.{state_at}
use Rattle.po.specs.Inner.Index.{Tells}
use Rattle.po.proofs.StateLaws.{CheckInv}
use Rattle.po.proofs.reader.check_file.Given as goal

abbrev pub invariant-loop-r : goal.invariant-loop-r
invariant-loop-r l = (CheckInv l.file l.n l.r) × ((length l.own ≡ length l.initial.own) × (Tells l.file l.own (state_at l.file l.r.number).ids))

abbrev pub decreases-loop-r : goal.decreases-loop-r
decreases-loop-r l = length l.file - l.r.at
