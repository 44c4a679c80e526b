use mathlib.Core.Path.{refl, sym, ◌∙◌}
use native.Mathlib.Omega.{arith}
use Rattle.once.proofs.Fills.{area-new, area_same}
use Rattle.once.proofs.area_at.Goals as goal

pub slice_bounds-is_header-count : goal.slice_bounds-is_header-count
slice_bounds-is_header-count c = omega (arith, c.requires.0)

pub slice_bounds-is_header-start : goal.slice_bounds-is_header-start
slice_bounds-is_header-start c = omega (arith, c.requires.0)

pub slice_bounds-is_header-end : goal.slice_bounds-is_header-end
slice_bounds-is_header-end c = omega (arith, c.requires.1)

pub returns-then-is_header : goal.returns-then-is_header
returns-then-is_header c = let a = c.args in area-new a.text.now a.i a.e a.above _ refl (sym c.is_header.ensures ∙ c.if-is_header.true)

pub returns : goal.returns
returns c = let a = c.args in area_same a.text.now a.i a.e a.above _ refl (sym c.is_header.ensures ∙ c.if-is_header.false)
