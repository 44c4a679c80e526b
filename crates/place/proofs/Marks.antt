-- The table of where lines end and which open a region, as it is filled and as it is read. Assumes nothing.
use Prim.Native.Nat.{ℕ, suc, ◌+◌, ◌-◌, ◌≤◌, ◌<◌, min}
use mathlib.Core.Path.{◌≡◌, refl, sym, ap, ◌∙◌}
use mathlib.Core.Bool.{Bool, true, false}
use mathlib.Core.List.{List, [], ◌∷◌, ◌++◌}
use native.Mathlib.Omega.{arith}
use borrow.Author.Tests.{ltb-true, ltb-false}
use lib.Dec.{ltb}
use lib.ListN.{length, get_or, set, drop, length-drop}
use lib.Seq.{get_or-drop, drop-drop, length-take-le}
use Rattle.lines.specs.Lf.{part, up_to, lines_of}
use Rattle.lines.proofs.LfLaws.{lines-at, lines_end, find-le}
use Rattle.lines.proofs.OutLaws.{Writing, writing_start, writing-as, writing-room}
use Rattle.place.specs.Inner.Fill.{Filled}
use Rattle.place.specs.Inner.Ends.{end_mark, end_marks}
use Rattle.place.proofs.Fills.{entry-on, entry-end}

pub marks-length : (i : ℕ) (ls : List (List ℕ)) → length (end_marks i ls) ≡ length ls
unfolding end_marks
marks-length i [] = refl
marks-length i (l ∷ ls) = ap suc (marks-length (suc (i + length l)) ls)

-- below the last line it does not matter where a line would begin
none : (ls : List (List ℕ)) (a b : ℕ) → ls ≡ [] → end_marks a ls ≡ end_marks b ls
unfolding end_marks
none ls a b z = ap (end_marks a) z ∙ ap (end_marks b) (sym z)

past : (t : List ℕ) (e j : ℕ) → j ≡ min (e + 1) (length t) → end_marks (suc e) (lines_of (drop j t)) ≡ end_marks j (lines_of (drop j t))
past t e j y = go (ltb e (length t)) refl
  where
    go : (b : Bool) → ltb e (length t) ≡ b → end_marks (suc e) (lines_of (drop j t)) ≡ end_marks j (lines_of (drop j t))
    go true z = ap (λ (n : ℕ). end_marks n (lines_of (drop j t))) (let l : e < length t = ltb-true e (length t) z in let w : suc e ≡ j = omega (arith, y, l) in w)
    go false z = none (lines_of (drop j t)) (suc e) j (lines_end t j (let l : length t ≤ e = ltb-false e (length t) z in omega (arith, y, l)))

-- the marks of the lines from i on: that of the first, and those below
module _ (t : List ℕ) (i : ℕ) (q : i < length t) (e : ℕ) (z : e ≡ i + up_to 10 (drop i t)) (j : ℕ) (y : j ≡ min (e + 1) (length t)) where
  ends : i + length (part i e t) ≡ e
  ends = let w = length-take-le (e - i) (drop i t) (let v = length-drop i t in let u = find-le 10 t i e (let p : i ≤ length t = omega arith in p) z in omega arith) in omega (arith, w, z)

  pub marks-here : end_marks i (lines_of (drop i t)) ≡ end_mark e (part i e t) ∷ end_marks j (lines_of (drop j t))
  unfolding end_marks
  marks-here =
      ap (end_marks i) (lines-at t i e q z ∙ ap (λ (v : ℕ). part i e t ∷ lines_of (drop v t)) (sym y))
      ∙ ap (λ (v : ℕ). end_mark v (part i e t) ∷ end_marks (suc v) (lines_of (drop j t))) ends
      ∙ ap (λ (xs : List ℕ). end_mark e (part i e t) ∷ xs) (past t e j y)

-- ---- filling

pub record EndsInv (t d₀ d : List ℕ) (i k : ℕ) : Type 0 where
  pub marks : Writing 0 (end_marks 0 (lines_of t)) (end_marks i (lines_of (drop i t))) d₀ d k

pub ends-start : (t d : List ℕ) → length (lines_of t) ≤ length d → EndsInv t d d 0 0
ends-start t d h = record { marks = writing_start 0 (end_marks 0 (lines_of t)) d (omega (arith, marks-length 0 (lines_of t))) }

module _ {t d₀ d : List ℕ} {i k : ℕ} (h : EndsInv t d₀ d i k) where
  module _ (q : i < length t) (e : ℕ) (z : e ≡ i + up_to 10 (drop i t)) where
    pub ends-place : k < length d
    ends-place = let p = writing-room (writing-as (marks-here t i q e z _ refl) h.marks) in omega arith

    pub ends_on : {x j : ℕ} → x ≡ end_mark e (part i e t) → j ≡ min (e + 1) (length t) → EndsInv t d₀ (set d k x) j (k + 1)
    ends_on {x} {j} v y = record { marks = entry-on x (writing-as (marks-here t i q e z j y ∙ ap (λ (n : ℕ). n ∷ end_marks j (lines_of (drop j t))) (sym v)) h.marks) }

  pub ends-done : length t ≤ i → Filled d₀ (end_marks 0 (lines_of t)) d k
  unfolding end_marks
  ends-done q = entry-end (ap (end_marks i) (lines_end t i q)) h.marks

-- ---- reading: the marks from the k-th on are those of the lines from i on

pub record Marked (t es : List ℕ) (i k : ℕ) : Type 0 where
  pub rest : List ℕ
  pub left : drop k es ≡ end_marks i (lines_of (drop i t)) ++ rest

pub marked_start : {t d es : List ℕ} {n : ℕ} → Filled d (end_marks 0 (lines_of t)) es n → Marked t es 0 0
marked_start f = record { rest = _; left = f.holds }

module _ {t es : List ℕ} {i k : ℕ} (h : Marked t es i k) (q : i < length t) (e : ℕ) (z : e ≡ i + up_to 10 (drop i t)) where
  pub marked-here : get_or es k 0 ≡ end_mark e (part i e t)
  marked-here =
      ap (λ (n : ℕ). get_or es n 0) (let w : k ≡ k + 0 = omega arith in w)
      ∙ sym (get_or-drop k es 0 0)
      ∙ ap (λ (x : List ℕ). get_or x 0 0) (h.left ∙ ap (λ (x : List ℕ). x ++ h.rest) (marks-here t i q e z _ refl))

  pub marked-on : {j : ℕ} → j ≡ min (e + 1) (length t) → Marked t es j (k + 1)
  marked-on {j} y = record {
    rest = h.rest;
    left = sym (drop-drop 1 k es) ∙ ap (drop 1) (h.left ∙ ap (λ (x : List ℕ). x ++ h.rest) (marks-here t i q e z j y));
  }
