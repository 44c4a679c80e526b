use Prim.Native.Nat.{◌+◌, ◌-◌, ◌≤◌}
use native.Mathlib.Omega.{arith}
use mathlib.Core.Path.{sym, ◌∙◌}
use lib.ListN.{length}
use lib.Seq.{length-take-le}
use Rattle.parse.proofs.ParseLaws.{rest_from, rest-to}
use Rattle.reading.proofs.AssignLaws.{sides-none, sides-are, sides-room, sides-plain}
use Rattle.reading.proofs.sides_of.Goals as goal

pub returns-then-k-u : goal.returns-then-k-u
returns-then-k-u c = sym (sides-none c.args.u.now c.find_byte-k.result c.find_byte-k.ensures c.if-k-u.true)

pub overflow_sub-before : goal.overflow_sub-before
overflow_sub-before c = let r = sides-room c.args.u.now c.find_byte-k.result c.find_byte-k.ensures (sym c.plain_sides.ensures ∙ c.if-plain_sides.true) in omega (arith, r.0)

pub overflow_add-behind : goal.overflow_add-behind
overflow_add-behind c = let r = sides-room c.args.u.now c.find_byte-k.result c.find_byte-k.ensures (sym c.plain_sides.ensures ∙ c.if-plain_sides.true) in omega (arith, r.1)

pub returns-then-plain_sides : goal.returns-then-plain_sides
returns-then-plain_sides c = sides-plain c.args.u.now c.find_byte-k.result c.find_byte-k.ensures (sym c.plain_sides.ensures ∙ c.if-plain_sides.true)

pub slice_bounds-trim_span-end : goal.slice_bounds-trim_span-end
slice_bounds-trim_span-end c = sym (length-take-le c.find_byte-k.result c.args.u.now (omega arith))

pub overflow_add-right : goal.overflow_add-right
overflow_add-right c = let u = c.args.u.now in let k = c.find_byte-k.result in omega (arith, c.if-k-u.false, c.trim_span-v.ensures.0, rest_from u (k + 1))

pub overflow_add-right-2 : goal.overflow_add-right-2
overflow_add-right-2 c = let u = c.args.u.now in let k = c.find_byte-k.result in let h : c.trim_span-v.result.to ≤ length u - (k + 1) = omega (arith, c.trim_span-v.ensures.1, rest-to u (k + 1)) in omega (arith, c.if-k-u.false)

pub returns : goal.returns
returns c = let u = c.args.u.now in let g = c.find_byte-k in let v = c.trim_span-v in let w = c.trim_span-left in sides-are u g.result g.ensures c.if-k-u.false w.result v.result w.ensures.0 w.ensures.1 v.ensures.0 v.ensures.1
