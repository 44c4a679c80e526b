-- Lines that stay, one after the other, as bytes. Assumes nothing.
use Prim.Native.Nat.{ℕ, suc, ◌+◌, ◌-◌, ◌≤◌, ◌<◌, min}
use mathlib.Core.Path.{◌≡◌, refl, sym, ap, ◌∙◌}
use mathlib.Core.Bool.{Bool, true, false, cond}
use mathlib.Core.List.{List, [], ◌∷◌, ◌++◌, append_assoc}
use native.Mathlib.Omega.{arith}
use borrow.Author.Tests.{eqb-true, lt-ltb}
use lib.Dec.{eqb}
use lib.ListN.{length, take, drop, get_or, length-take, length-drop, length-append, drop_of_length-le}
use lib.Seq.{drop-drop, get_or-drop, take-add, take-take}
use Rattle.lines.specs.Lf.{part, up_to, lines_of, unlines}
use Rattle.lines.proofs.LfLaws.{up_to-le, lines-first, part-more, rest_of}
use Rattle.lines.proofs.StepLaws.{ends_more, missing_lf, lines-text}
use Rattle.parse.proofs.Plain.{up-take}

-- ---- the place of a byte

pub up_at : (b : ℕ) (l : List ℕ) → up_to b l < length l → get_or l (up_to b l) 0 ≡ b
unfolding up_to
up_at b [] h = absurd (omega arith)
up_at b (x ∷ l) h = go (eqb x b) refl h (up_at b l)
  where
    go : (t : Bool) → eqb x b ≡ t → cond t 0 (suc (up_to b l)) < suc (length l) → (up_to b l < length l → get_or l (up_to b l) 0 ≡ b) → get_or (x ∷ l) (cond t 0 (suc (up_to b l))) 0 ≡ b
    go true e k f = eqb-true x b e
    go false e k f = f (omega arith)

pub part_join : (t : List ℕ) (c i n : ℕ) → c ≤ i → i ≤ n → part c n t ≡ part c i t ++ part i n t
part_join t c i n h k =
    let z : n - c ≡ i - c + (n - i) = omega arith in
    let y : c + (i - c) ≡ i = omega arith in
    ap (λ (m : ℕ). take m (drop c t)) z ∙ take-add (i - c) (n - i) (drop c t) ∙ ap (λ (r : List ℕ). part c i t ++ take (n - i) r) (drop-drop (i - c) c t ∙ ap (λ (m : ℕ). drop m t) y)

missing-more : (x : ℕ) (v : List ℕ) → 0 < length v → missing_lf (x ∷ v) ≡ missing_lf v
unfolding missing_lf
missing-more x v h = rw (ends_more 10 x v h, lt-ltb 0 (length v) h, lt-ltb 0 (suc (length v)) (omega arith))

missing-append : (x y : List ℕ) → 0 < length y → missing_lf (x ++ y) ≡ missing_lf y
missing-append [] y h = refl
missing-append (a ∷ x) y h = missing-more a (x ++ y) (omega (arith, length-append x y)) ∙ missing-append x y h

-- ---- one more line: that from i up to e, and n is the place after it

module _ (t : List ℕ) (c i e n : ℕ) (h : c ≤ i) (k : i < length t) (q : e ≡ i + up_to 10 (drop i t)) (z : n ≡ min (e + 1) (length t)) where
  inside : e ≤ length t
  inside = omega (arith, up_to-le 10 (drop i t), length-drop i t)

  pub one_line : lines_of (part i n t) ≡ part i e t ∷ []
  unfolding lines_of
  one_line =
      let l : List ℕ = part i n t in
      let w = inside in
      let u : up_to 10 l ≡ up_to 10 (drop i t) = up-take 10 (n - i) (drop i t) (omega arith) in
      let s : length l ≤ suc (up_to 10 l) = omega (arith, length-take (n - i) (drop i t)) in
      let p : 0 < length l = omega (arith, length-take (n - i) (drop i t), length-drop i t) in
      let y : up_to 10 (drop i t) ≡ e - i = omega arith in
      lines-first l p
      ∙ ap (λ (r : List ℕ). take (up_to 10 l) l ∷ lines_of r) (drop_of_length-le l s)
      ∙ ap (λ (m : ℕ). take m l ∷ []) (u ∙ y)
      ∙ ap (λ (r : List ℕ). r ∷ []) (take-take (e - i) (n - i) (drop i t) (omega arith))

  -- where it is the last
  pub chunk-shut : length t ≤ n → part c i t ++ (part i e t ++ 10 ∷ []) ≡ unlines (lines_of (part c (length t) t))
  unfolding unlines
  chunk-shut g =
      let w = inside in
      let v : n ≡ length t = omega arith in
      let y : List ℕ = part i n t in
      let p : 0 < length y = omega (arith, length-take (n - i) (drop i t), length-drop i t) in
      sym
      (ap (λ (m : ℕ). unlines (lines_of (part c m t))) (sym v)
      ∙ ap (λ (r : List ℕ). unlines (lines_of r)) (part_join t c i n h (omega arith))
      ∙ lines-text (part c i t ++ y)
      ∙ ap (λ (r : List ℕ). (part c i t ++ y) ++ r) (missing-append (part c i t) y p)
      ∙ append_assoc (part c i t) y (missing_lf y)
      ∙ ap (λ (r : List ℕ). part c i t ++ r) (sym (lines-text y) ∙ ap unlines one_line))

  -- where it has its LF
  pub chunk-lf : e < length t → part c i t ++ (part i e t ++ 10 ∷ []) ≡ part c n t
  chunk-lf g =
      let v : e + 1 ≡ n = omega arith in
      let u : up_to 10 (drop i t) < length (drop i t) = omega (arith, length-drop i t) in
      let b : get_or t e 0 ≡ 10 = ap (λ (m : ℕ). get_or t m 0) q ∙ sym (get_or-drop i t (up_to 10 (drop i t)) 0) ∙ up_at 10 (drop i t) u in
      ap (λ (r : List ℕ). part c i t ++ r) (ap (λ (x : ℕ). part i e t ++ x ∷ []) (sym b) ∙ sym (part-more t i e (omega arith) (omega arith)) ∙ ap (λ (m : ℕ). part i m t) v)
      ∙ sym (part_join t c i n h (omega arith))

  -- where lines follow
  pub chunk-open : n < length t → part c i t ++ (part i e t ++ 10 ∷ []) ≡ part c n t
  chunk-open g = let w = inside in chunk-lf (omega arith)

-- no line
pub chunk-none : (t : List ℕ) (i : ℕ) → length t ≤ i → [] ≡ unlines (lines_of (part i (length t) t))
unfolding unlines lines_of
chunk-none t i h = sym (ap (λ (r : List ℕ). unlines (lines_of r)) (rest_of t i ∙ drop_of_length-le t h))
