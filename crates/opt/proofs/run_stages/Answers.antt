use Prim.Native.Nat.{◌-◌}
use mathlib.Core.Path.{◌≡◌}
use native.Mathlib.Omega.{arith}
use Rattle.opt.proofs.run_stages.Goals as goal

pub returns : goal.returns
returns c =
    let g = c.args in
    let z : g.n - 0 ≡ g.n = omega arith in
    let w = c.tidy_small.ensures in
    record { answer = rw (← z) w.answer; memory = rw (← z) w.memory; records = rw (← z) w.records }
