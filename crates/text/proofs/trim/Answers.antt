use mathlib.Core.Path.{sym, ap₂, ◌∙◌}
use Prim.Native.Nat.{ℕ, ◌-◌}
use native.Mathlib.Omega.{arith}
use lib.ListN.{take, drop}
use Rattle.text.proofs.Trims.{to_end-le, trim-part}
use Rattle.text.proofs.trim.Goals as goal

pub slice_bounds-result-end : goal.slice_bounds-result-end
slice_bounds-result-end c = omega (arith, c.trim_span-w.ensures.1, to_end-le c.args.s.now)

pub returns : goal.returns
returns c =
    let s = c.args.s.now in
    let w = c.trim_span-w.ensures in
    let q = ap₂ (λ (a e : ℕ). take (e - a) (drop a s)) w.0 w.1 in
    (q ∙ sym (trim-part s), q)
