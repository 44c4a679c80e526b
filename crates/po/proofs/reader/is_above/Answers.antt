use mathlib.Core.List.{List}
use Rattle.po.specs.Inner.ReadWalk.{met, next_of, same_id}
use Prim.Native.Nat.{ℕ, ◌-◌, ◌+◌}
use native.Mathlib.Omega.{arith}
use mathlib.Core.Path.{◌≡◌, sym, ap, ◌∙◌}
use mathlib.Core.Bool.{Bool, ◌||◌}
use lib.ListN.{take, drop}
use Rattle.lines.specs.Lf.{parts_of}
use Rattle.po.specs.Found.{decoded}
use Rattle.po.specs.Inner.ReadWalk.{met, next_of}
use Rattle.po.proofs.StateLaws.{met-known, met-none, met-first, met-last, met-yes, next_low}
use Rattle.po.proofs.reader.is_above.Goals as goal

pub loop-init : goal.loop-init
loop-init c = let a = c.args in let z : a.k - 0 ≡ a.k = omega arith in (omega arith, (omega arith, ap (λ (n : ℕ). met 0 (take n (parts_of 10 a.file.now)) (decoded a.s.now 34)) z))

pub returns-then-is_same_id : goal.returns-then-is_same_id
returns-then-is_same_id c = let a = c.args in let l = c.loop in met-yes a.file.now l.i _ l.invariant.0 c.find_byte-e.ensures a.k l.counter (omega arith) l.w (decoded a.s.now 34) _ (c.is_same_id.ensures ∙ ap (λ (y : List ℕ). same_id l.w y (decoded a.s.now 34)) c.cut.ensures) c.if-is_same_id.true ∙ l.invariant.1.1 ∙ met-known a.file.now a.k (decoded a.s.now 34)

pub returns-then-file-e : goal.returns-then-file-e
returns-then-file-e c = let a = c.args in let l = c.loop in sym c.if-is_same_id.false ∙ sym (met-last a.file.now l.i _ l.invariant.0 c.find_byte-e.ensures a.k l.counter (omega arith) l.w (decoded a.s.now 34) _ (c.is_same_id.ensures ∙ ap (λ (y : List ℕ). same_id l.w y (decoded a.s.now 34)) c.cut.ensures) c.if-file-e.true) ∙ l.invariant.1.1 ∙ met-known a.file.now a.k (decoded a.s.now 34)

pub next_awaited-w-requires : goal.next_awaited-w-requires
next_awaited-w-requires c = c.loop.invariant.1.0

pub overflow_add-i : goal.overflow_add-i
overflow_add-i c = omega (arith, c.if-file-e.false)

pub loop-preserved : goal.loop-preserved
loop-preserved c = let a = c.args in let l = c.loop in let low = next_low l.w l.invariant.1.0 in (omega (arith, c.if-file-e.false), (omega (arith, c.next_awaited-w.ensures), ap (λ (x : ℕ). met x (take (a.k - (l.counter + 1)) (parts_of 10 (drop (c.find_byte-e.result + 1) a.file.now))) (decoded a.s.now 34)) c.next_awaited-w.ensures ∙ sym (met-first a.file.now l.i _ l.invariant.0 c.find_byte-e.ensures a.k l.counter (omega arith) l.w (decoded a.s.now 34) _ (c.is_same_id.ensures ∙ ap (λ (y : List ℕ). same_id l.w y (decoded a.s.now 34)) c.cut.ensures) c.if-file-e.false ∙ ap (λ (b : Bool). b || met (next_of l.w) (take (a.k - (l.counter + 1)) (parts_of 10 (drop (c.find_byte-e.result + 1) a.file.now))) (decoded a.s.now 34)) c.if-is_same_id.false) ∙ l.invariant.1.1))

pub returns : goal.returns
returns c = let a = c.args in let l = c.loop in sym (met-none l.w (a.k - l.counter) (parts_of 10 (drop l.i a.file.now)) (decoded a.s.now 34) (omega arith)) ∙ l.invariant.1.1 ∙ met-known a.file.now a.k (decoded a.s.now 34)
