use Prim.Native.Nat.{ℕ, ◌-◌, ◌+◌}
use native.Mathlib.Omega.{arith}
use mathlib.Core.Path.{◌≡◌, sym, ap, ◌∙◌}
use mathlib.Core.Bool.{Bool, ◌||◌}
use mathlib.Core.List.{List}
use lib.ListN.{take}
use Rattle.po.specs.Found.{Literal, decoded, known}
use Rattle.po.specs.Inner.Walk.{spots_from, texts}
use Rattle.po.proofs.LoopLaws.{known-end, known-none, known-first}
use Rattle.po.proofs.is_known.Goals as goal

pub loop-init : goal.loop-init
loop-init c = let a = c.args in let f = c.first_lit-c in let z : a.k - 0 ≡ a.k = omega arith in (f.ensures.ready, ap (λ (n : ℕ). known (take n (texts (spots_from a.t.now f.result))) (decoded a.s.now a.q)) z ∙ ap (λ (ss : List Literal). known (take a.k (texts ss)) (decoded a.s.now a.q)) (sym f.ensures.t_value))

pub returns-then-t-c : goal.returns-then-t-c
returns-then-t-c c = let a = c.args in let l = c.loop in sym (known-end a.t.now l.c (a.k - l.counter) (decoded a.s.now a.q) l.invariant.0 c.if-t-c.true) ∙ l.invariant.1

pub past_lit-next-requires : goal.past_lit-next-requires
past_lit-next-requires c = record { ready = c.loop.invariant.0; at_in_bounds = c.if-t-c.false }

pub lit_rest-requires : goal.lit_rest-requires
lit_rest-requires c = c.if-t-c.false

pub returns-then-same_text : goal.returns-then-same_text
returns-then-same_text c = let a = c.args in let l = c.loop in let p = c.past_lit-next in let u = c.same_text in ap (λ (b : Bool). b || known (take (a.k - (l.counter + 1)) (texts (spots_from a.t.now p.result))) (decoded a.s.now a.q)) (sym c.if-same_text.true) ∙ sym (known-first a.t.now l.c p.result p.ensures.c_value a.k l.counter (omega arith) (decoded a.s.now a.q) u.result _ _ u.ensures c.lit_rest.ensures c.byte_at.ensures) ∙ l.invariant.1

pub loop-preserved : goal.loop-preserved
loop-preserved c = let a = c.args in let l = c.loop in let p = c.past_lit-next in let u = c.same_text in (p.ensures.ready_2, ap (λ (b : Bool). b || known (take (a.k - (l.counter + 1)) (texts (spots_from a.t.now p.result))) (decoded a.s.now a.q)) (sym c.if-same_text.false) ∙ sym (known-first a.t.now l.c p.result p.ensures.c_value a.k l.counter (omega arith) (decoded a.s.now a.q) u.result _ _ u.ensures c.lit_rest.ensures c.byte_at.ensures) ∙ l.invariant.1)

pub returns : goal.returns
returns c = let a = c.args in let l = c.loop in sym (known-none (texts (spots_from a.t.now l.c)) (decoded a.s.now a.q) (a.k - l.counter) (omega arith)) ∙ l.invariant.1
