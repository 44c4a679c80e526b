use mathlib.Core.Path.{◌≡◌, ap, ◌∙◌}
use native.Mathlib.Omega.{arith}
use Prim.Native.Nat.{◌-◌}
use lib.ListN.{length, take, drop}
use Rattle.text.specs.Trim.{from_of, to_of}
use Rattle.text.proofs.Trims.{from_of-le, to_end-le, rest_of}
use Rattle.text.proofs.span_by.Goals as goal

pub slice_bounds-trim_to-count : goal.slice_bounds-trim_to-count
slice_bounds-trim_to-count c = omega (arith, from_of-le c.args.s.now)

pub slice_bounds-trim_to-start : goal.slice_bounds-trim_to-start
slice_bounds-trim_to-start c = omega (arith, from_of-le c.args.s.now)

pub overflow_add-result : goal.overflow_add-result
overflow_add-result c = let s = c.args.s.now in let a = c.trim_from-a.result in let q : to_of (take (length s - a) (drop a s)) ≡ to_of (drop (from_of s) s) = ap to_of (rest_of s a ∙ ap (λ n. drop n s) c.trim_from-a.ensures) in omega (arith, to_end-le s)
