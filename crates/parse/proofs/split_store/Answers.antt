use Prim.Native.Nat.{◌+◌, ◌-◌, ◌≤◌}
use native.Mathlib.Omega.{arith}
use mathlib.Core.Path.{◌≡◌, sym, ap, ◌∙◌}
use mathlib.Core.List.{List}
use Prim.Native.Nat.{ℕ}
use lib.ListN.{length, drop}
use lib.Seq.{length-take-le}
use Rattle.names.specs.Names.{reg_of}
use Rattle.text.specs.Trim.{from_of, to_end}
use Rattle.std.specs.declared.option.Option.{Option}
use Rattle.names.specs.declared.Register.{Register}
use Rattle.parse.specs.Parse.{store_by}
use Rattle.lines.proofs.LfLaws.{rest_of}
use Rattle.parse.proofs.ParseLaws.{store-none, store-eq, store-reg, rest_from, rest-to}
use Rattle.parse.proofs.split_store.Goals as goal

pub returns-then-k-u : goal.returns-then-k-u
returns-then-k-u c = let a = c.args in sym (store-none a.a a.u.now c.find_byte-k.result c.find_byte-k.ensures c.if-k-u.true)

pub returns-then-byte_at-eq61 : goal.returns-then-byte_at-eq61
returns-then-byte_at-eq61 c = let a = c.args in sym (store-eq a.a a.u.now c.find_byte-k.result c.find_byte-k.ensures c.if-k-u.false (sym c.byte_at.ensures ∙ c.if-byte_at-eq61.true))

pub slice_bounds-trim-end : goal.slice_bounds-trim-end
slice_bounds-trim-end c = sym (length-take-le c.find_byte-k.result c.args.u.now (omega arith))

pub overflow_add-result-in-Some : goal.overflow_add-result-in-Some
overflow_add-result-in-Some c = let u = c.args.u.now in let k = c.find_byte-k.result in omega (arith, c.if-k-u.false, c.requires, c.trim_span-v.ensures.0, rest_from u (k + 1))

pub overflow_add-result-in-Some-3 : goal.overflow_add-result-in-Some-3
overflow_add-result-in-Some-3 c = let u = c.args.u.now in let k = c.find_byte-k.result in let h : c.trim_span-v.result.to ≤ length u - (k + 1) = omega (arith, c.trim_span-v.ensures.1, rest-to u (k + 1)) in omega (arith, c.if-k-u.false, c.requires)

pub returns-in-Some : goal.returns-in-Some
returns-in-Some c =
    let a = c.args in
    let u = a.u.now in
    let k = c.find_byte-k.result in
    let w = c.trim_span-v in
    let r = c.reg_name in
    let f : w.result.from ≡ from_of (drop (k + 1) u) = w.ensures.0 ∙ ap from_of (rest_of u (k + 1)) in
    let t : w.result.to ≡ to_end (drop (k + 1) u) = w.ensures.1 ∙ ap (λ (l : List ℕ). to_end l) (rest_of u (k + 1)) in
    rw (f, t) (sym (store-reg a.a u k c.find_byte-k.ensures c.if-k-u.false (λ z. c.if-byte_at-eq61.false (c.byte_at.ensures ∙ z)) r.result (r.ensures ∙ ap reg_of c.trim.ensures.0)
    ∙ ap (λ (x : Option Register). store_by x (a.a + (k + 1)) (drop (k + 1) u)) c.in-Some.is))

pub returns-in-None : goal.returns-in-None
returns-in-None c =
    let a = c.args in
    let u = a.u.now in
    let k = c.find_byte-k.result in
    let r = c.reg_name in
    sym (store-reg a.a u k c.find_byte-k.ensures c.if-k-u.false (λ z. c.if-byte_at-eq61.false (c.byte_at.ensures ∙ z)) r.result (r.ensures ∙ ap reg_of c.trim.ensures.0)
    ∙ ap (λ (x : Option Register). store_by x (a.a + (k + 1)) (drop (k + 1) u)) c.in-None.is)
