-- Plain bytes move no block. Assumes nothing.
use Prim.Native.Nat.{ℕ, ◌≤◌}
use mathlib.Core.Path.{◌≡◌, refl, sym}
use mathlib.Core.Bool.{true}
use mathlib.Core.List.{List, [], ◌∷◌}
use native.Mathlib.Omega.{arith}
use borrow.Author.Tests.{ne_eqb}
use lib.ListN.{length, take}
use Rattle.lines.specs.Lf.{all}
use Rattle.lines.proofs.Tests.{and_left, and_right}
use Rattle.lexical.specs.Inner.Plain.{is_plain}
use Rattle.lexical.proofs.PlainLaws.{plain-low}
use Rattle.place.specs.Blocks.{neither, brace_of}
use Rattle.place.specs.Inner.Parents.{cur_by, ups_by, braces, Moved}
use Rattle.place.proofs.Parents.{moved_none}

plain-brace : (x : ℕ) → is_plain x ≡ true → brace_of x ≡ neither
unfolding brace_of
plain-brace x h = let k = plain-low x h in rw (ne_eqb x 123 (omega arith), ne_eqb x 125 (omega arith))

plain-cur : (l : List ℕ) (c : ℕ) (ups : List ℕ) → all is_plain l ≡ true → cur_by (braces l) c ups ≡ c
unfolding cur_by braces
plain-cur [] c ups h = refl
plain-cur (x ∷ l) c ups h = rw (plain-brace x (and_left (is_plain x) _ h)) (plain-cur l c ups (and_right (is_plain x) _ h))

plain-ups : (l : List ℕ) (c : ℕ) (ups : List ℕ) → all is_plain l ≡ true → ups_by (braces l) c ups ≡ ups
unfolding ups_by braces
plain-ups [] c ups h = refl
plain-ups (x ∷ l) c ups h = rw (plain-brace x (and_left (is_plain x) _ h)) (plain-ups l c ups (and_right (is_plain x) _ h))

-- plain bytes move no block
pub moved-run : (l : List ℕ) (c : ℕ) (u : List ℕ) (n : ℕ) → all is_plain l ≡ true → n ≤ length u → Moved (braces l) c u n c u n
unfolding cur_by ups_by
moved-run l c u n h k = record { cur = sym (plain-cur l c (take n u) h); filled = rw (plain-ups l c (take n u) h) (moved_none c u n k).filled }
