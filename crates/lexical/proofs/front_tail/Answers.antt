use Prim.Native.Nat.{ℕ, ◌-◌}
use mathlib.Core.Path.{◌≡◌, ap, ◌∙◌}
use native.Mathlib.Omega.{arith}
use lib.ListN.{take}
use Rattle.lexical.specs.Inner.Plain.{low_tail}
use Rattle.lexical.proofs.front_tail.Goals as goal

pub returns : goal.returns
returns c =
    let a = c.args in
    let e : a.k - 0 ≡ a.k = omega arith in
    c.low_tail.ensures ∙ ap low_tail (c.cut.ensures ∙ ap (λ (n : ℕ). take n a.s.now) e)
