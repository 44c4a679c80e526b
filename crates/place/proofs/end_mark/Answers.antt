use native.Mathlib.Omega.{arith}
use Prim.Native.Nat.{ℕ, ◌+◌, ◌*◌}
use mathlib.Core.Path.{◌≡◌, sym, ap, ◌∙◌}
use mathlib.Core.Bool.{Bool, false, cond}
use mathlib.Core.List.{List}
use Rattle.place.specs.Region.{is_header}
use Rattle.place.specs.Inner.Ends.{end_mark}
use Rattle.place.proofs.Regions.{space-head}
use Rattle.place.proofs.end_mark.Goals as goal

-- of a line that opens no region

no_header : (e : ℕ) (l : List ℕ) → false ≡ is_header l → 2 * e ≡ end_mark e l
no_header e l h = (let z : 2 * e ≡ 2 * e + 0 = omega arith in z) ∙ ap (λ (b : Bool). 2 * e + cond b 1 0) h

pub returns-then-byte_at-eq32 : goal.returns-then-byte_at-eq32
returns-then-byte_at-eq32 c = let a = c.args in no_header a.e a.line.now (space-head a.line.now c.byte_at.result c.byte_at.ensures c.if-byte_at-eq32.true)

pub returns-then-opens_region : goal.returns-then-opens_region
returns-then-opens_region c = ap (λ (b : Bool). 2 * c.args.e + cond b 1 0) (sym c.if-opens_region.true ∙ c.opens_region.ensures)

pub returns : goal.returns
returns c = let a = c.args in no_header a.e a.line.now (sym c.if-opens_region.false ∙ c.opens_region.ensures)
