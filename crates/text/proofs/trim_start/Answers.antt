use native.Mathlib.Omega.{arith}
use Rattle.text.proofs.Trims.{from_of-le}
use Rattle.text.proofs.trim_start.Goals as goal

pub slice_bounds-result-count : goal.slice_bounds-result-count
slice_bounds-result-count c = omega (arith, from_of-le c.args.s.now)

pub slice_bounds-result-start : goal.slice_bounds-result-start
slice_bounds-result-start c = omega (arith, from_of-le c.args.s.now)

pub slice_bounds-result-count-2 : goal.slice_bounds-result-count-2
slice_bounds-result-count-2 c = omega (arith, from_of-le c.args.s.now)

pub slice_bounds-result-start-2 : goal.slice_bounds-result-start-2
slice_bounds-result-start-2 c = omega (arith, from_of-le c.args.s.now)
