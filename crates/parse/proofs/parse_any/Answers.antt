use Prim.Native.Nat.{◌-◌, ◌≤◌}
use native.Mathlib.Omega.{arith}
use mathlib.Core.Path.{sym, ◌∙◌}
use lib.ListN.{length, drop, length-take}
use Rattle.text.specs.Trim.{to_end}
use Rattle.text.proofs.Trims.{to_end-le}
use Rattle.parse.proofs.ParseLaws.{parse-decl, parse-rest}
use Rattle.parse.proofs.parse_any.Goals as goal

pub slice_bounds-is_decl-count : goal.slice_bounds-is_decl-count
slice_bounds-is_decl-count c = omega (arith, c.trim_span-w.ensures.0, c.trim_span-w.ensures.1)

pub slice_bounds-is_decl-start : goal.slice_bounds-is_decl-start
slice_bounds-is_decl-start c = omega (arith, c.trim_span-w.ensures.0, c.trim_span-w.ensures.1)

pub slice_bounds-is_decl-end : goal.slice_bounds-is_decl-end
slice_bounds-is_decl-end c = let h : to_end c.args.line.now ≤ length c.args.line.now = to_end-le c.args.line.now in omega (arith, c.trim_span-w.ensures.1)

pub returns-then-is_decl : goal.returns-then-is_decl
returns-then-is_decl c = let w = c.trim_span-w in parse-decl c.args.line.now _ _ w.ensures.0 w.ensures.1 (sym c.is_decl.ensures ∙ c.if-is_decl.true)

pub slice_bounds-store_in-count : goal.slice_bounds-store_in-count
slice_bounds-store_in-count c = let w = c.trim_span-w in omega (arith, w.ensures.0, w.ensures.1)

pub slice_bounds-store_in-start : goal.slice_bounds-store_in-start
slice_bounds-store_in-start c = let w = c.trim_span-w in omega (arith, w.ensures.0, w.ensures.1)

pub slice_bounds-store_in-end : goal.slice_bounds-store_in-end
slice_bounds-store_in-end c = let w = c.trim_span-w in let h : to_end c.args.line.now ≤ length c.args.line.now = to_end-le c.args.line.now in omega (arith, w.ensures.1)

pub store_in-requires : goal.store_in-requires
store_in-requires c =
    let w = c.trim_span-w in
    let l = c.args.line.now in
    let h : to_end l ≤ length l = to_end-le l in
    omega (arith, w.ensures.0, w.ensures.1, length-take (w.result.to - w.result.from) (drop w.result.from l))

pub returns : goal.returns
returns c = let w = c.trim_span-w in parse-rest c.args.line.now _ _ w.ensures.0 w.ensures.1 (sym c.is_decl.ensures ∙ c.if-is_decl.false) c.store_in.result c.store_in.ensures
