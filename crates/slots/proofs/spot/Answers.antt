use Rattle.std.proofs.Common.{◌≡◌, ℕ, ◌+◌, ◌-◌, ◌%◌, length, sym, ap, ◌∙◌, arith}
use Rattle.slots.specs.Inner.Slots.{spot_go}
use Rattle.slots.proofs.SlotLaws.{spot_past, spot-here, spot_on, spot-out}
use Rattle.slots.proofs.spot.Goals as goal

pub returns-then-n-eq0 : goal.returns-then-n-eq0
returns-then-n-eq0 c = sym (spot_past _ _ _ _ (omega (arith, c.if-n-eq0.true)) ∙ c.if-n-eq0.true)

pub returns-then-x-v : goal.returns-then-x-v
returns-then-x-v c = sym (c.loop-k.invariant ∙ spot-here _ _ _ _ (omega arith) (omega arith) c.if-x-v.true)

pub loop-k-preserved : goal.loop-k-preserved
loop-k-preserved c =
    let own = c.args.own.now in
    let home = c.args.v % length own in
    let k = c.loop-k.k in
    let z : 32 - k - 1 ≡ 32 - (k + 1) = omega arith in
    let y : home + k + 1 ≡ home + (k + 1) = omega arith in
    c.loop-k.invariant ∙ spot_on _ _ _ _ (omega arith) (omega arith) c.if-x-v.false ∙ ap (λ (m : ℕ). spot_go m own (home + k + 1) c.args.v) z ∙ ap (λ (m : ℕ). spot_go (32 - (k + 1)) own m c.args.v) y

pub returns : goal.returns
returns c = let l = c.loop-k in sym (l.invariant ∙ spot-out c.args.own.now _ c.args.v _ (λ h. omega arith))
