use Rattle.pruned.proofs.EntryCode.{blanked, start-off}
use Rattle.pruned.specs.Inner.Walk.{moved_from}
use Rattle.lines.proofs.OutLaws.{wrote-length}
use lib.ListN.{set, length-set}
use native.Mathlib.Omega.{arith}
use Prim.Native.Nat.{ℕ}
use mathlib.Core.List.{List}
use mathlib.Core.Bool.{true, false}
use mathlib.Core.Path.{ap, ◌∙◌}
use Rattle.pruned.proofs.course.start.Goals as goal

pub walk-requires : goal.walk-requires
walk-requires c = (omega arith, start-off c.wipe.ensures)

pub shape_of-live : goal.shape_of-live
shape_of-live c = c.walk.auto.live ∙ length-set {A = ℕ} c.wipe.new.s 0 1 ∙ wrote-length c.wipe.ensures

pub returns : goal.returns
returns c = let s = c.args in (c.walk.ensures.0 ∙ ap (λ (x : List ℕ). moved_from false true 1 0 (set x 0 1) s.raw.now s.used.now s.raw.now) (blanked c.wipe.ensures), c.walk.ensures.1)
