-- The tests of a line that begins a loop, one after the other. Assumes nothing.
use Prim.Native.Nat.{ℕ, ◌+◌, ◌≤◌}
use mathlib.Core.Path.{◌≡◌, sym, ap, ◌∙◌}
use mathlib.Core.Bool.{Bool, false, ◌||◌, or_assoc}
use mathlib.Core.List.{List}
use native.Mathlib.Omega.{arith}
use lib.ListN.{length}
use Rattle.lines.specs.Ascii.{ascii}
use Rattle.lines.specs.Lf.{up_to, prefixed, suffixed, same, holds}
use Rattle.lines.proofs.Compare.{hold-up, hold-end}
use Rattle.place.specs.Loops.{opens_loop}
use Rattle.place.specs.Inner.Loops.{loop_front, loop_label}

pub loop-is : (t : List ℕ) → opens_loop t ≡ loop_front t || (suffixed (ascii " do {") t || loop_label t)
unfolding opens_loop
loop-is t =
    let a : Bool = prefixed (ascii "while (") t in
    let b : Bool = prefixed (ascii "while(") t in
    let c : Bool = prefixed (ascii "for (") t in
    let d : Bool = prefixed (ascii "for(") t in
    let e : Bool = same t (ascii "do {") in
    let r : Bool = suffixed (ascii " do {") t || loop_label t in
    ap (λ (x : Bool). a || (b || (c || x))) (sym (or_assoc d e r))
    ∙ ap (λ (x : Bool). a || (b || x)) (sym (or_assoc c (d || e) r))
    ∙ ap (λ (x : Bool). a || x) (sym (or_assoc b (c || (d || e)) r))
    ∙ sym (or_assoc a (b || (c || (d || e))) r)

-- without a `:` none stands behind a label
pub label-none : (t : List ℕ) (k : ℕ) → k ≡ 0 + up_to 58 t → length t ≤ k → loop_label t ≡ false
label-none t k q h =
    ap (λ (x : Bool). x || holds (ascii ": for (") t) (sym (hold-up (ascii ": while (") t 0 (omega arith) k q) ∙ hold-end (ascii ": while (") t k h)
    ∙ sym (hold-up (ascii ": for (") t 0 (omega arith) k q) ∙ hold-end (ascii ": for (") t k h
