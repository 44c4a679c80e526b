use Prim.Native.Nat.{ℕ}
use lib.ListN.{length-set}
use native.Mathlib.Omega.{arith}
use mathlib.Core.Path.{◌∙◌}
use Rattle.pruned.proofs.SeekCode.{step-leaves, set-off, all-behind}
use Rattle.pruned.proofs.course.step.Goals as goal

pub stretch-s-requires : goal.stretch-s-requires
stretch-s-requires c = (c.requires.0, (c.requires.1.0, c.requires.1.1.0))

pub bounds-live-lo : goal.bounds-live-lo
bounds-live-lo c = c.requires.0.0

pub seek-t-requires : goal.seek-t-requires
seek-t-requires c = let s = c.args in let t = c.stretch-s.ensures in ((t.0.0, omega (arith, t.0.1, length-set {A = ℕ} s.live.now s.lo 0)), ((t.1.0, all-behind s.live.now s.lo _ t.1.1), (c.requires.1.0, set-off s.live.now s.lo s.top c.requires.1.1.1)))

pub shape_of-live : goal.shape_of-live
shape_of-live c = c.seek-t.auto.live ∙ length-set {A = ℕ} c.args.live.now c.args.lo 0

pub returns : goal.returns
returns c = let t = c.stretch-s.ensures in step-leaves c.args.p.now c.args.live.now c.requires.0.0 (c.seek-t.auto.live ∙ length-set {A = ℕ} c.args.live.now c.args.lo 0) t.0 t.1.0 c.seek-t.ensures
