use Prim.Native.Nat.{ℕ, ◌+◌, ◌-◌, ◌<◌, ◌≤◌}
use mathlib.Core.Path.{◌≡◌, sym, ap, ◌∙◌}
use mathlib.Core.List.{List}
use native.Mathlib.Omega.{arith}
use lib.ListN.{take, replicate}
use Rattle.place.specs.Blocks.{closes}
use Rattle.place.specs.Inner.Parents.{cur_by}
use Rattle.place.proofs.Parents.{out-on, out-end}
use Rattle.place.proofs.outward.Goals as goal

pub around-b-requires : goal.around-b-requires
around-b-requires c = c.requires

pub loop-preserved : goal.loop-preserved
loop-preserved c =
    let a = c.args in
    let l = c.loop in
    let up : List ℕ = take a.n a.up.now in
    let left : ℕ = a.k - l.counter in
    let h : 0 < left = omega arith in
    let z : a.k - (l.counter + 1) ≡ left - 1 = omega arith in
    ap (λ (m : ℕ). cur_by (replicate m closes) c.around-b.result up) z
    ∙ ap (λ (x : ℕ). cur_by (replicate (left - 1) closes) x up) c.around-b.ensures
    ∙ sym (out-on left l.b up h) ∙ l.invariant

pub returns : goal.returns
returns c =
    let a = c.args in
    let l = c.loop in
    let h : a.k - l.counter ≤ 0 = omega arith in
    sym (out-end (a.k - l.counter) l.b (take a.n a.up.now) h) ∙ l.invariant
