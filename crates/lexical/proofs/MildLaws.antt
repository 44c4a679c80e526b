-- Plain bytes by eights. Assumes nothing.
use Prim.Native.Nat.{ℕ, zero, suc, ◌+◌, ◌-◌, ◌≤◌}
use mathlib.Core.Path.{◌≡◌, refl, sym, ap, ◌∙◌}
use mathlib.Core.Bool.{Bool, true, false, cond, ◌&&◌}
use mathlib.Core.List.{List, [], ◌∷◌}
use native.Mathlib.Omega.{arith}
use borrow.Author.Tests.{eqb-true, eqb-false, leb-true, le-leb, ltb-true}
use lib.Dec.{eqb, leb, ltb}
use lib.ListN.{length, take, drop, get_or, length-drop}
use lib.Seq.{drop-drop}
use Rattle.lines.specs.Lf.{all}
use Rattle.lines.specs.Inner.Lf.{lacks}
use Rattle.lines.proofs.Tests.{no, and-true, and_left, and_right}
use Rattle.lines.proofs.LfLaws.{eight_is}
use Rattle.lexical.specs.Inner.Plain.{is_plain, plain_len, is_mild, all_mild}
use Rattle.lexical.proofs.EndLaws.{ends}
use Rattle.lexical.proofs.PlainLaws.{none_of}

-- eight tests at once
pub mild-at : (s : List ℕ) (j : ℕ) → j + 8 ≤ length s →
    is_mild (get_or s j 0) && (is_mild (get_or s (j + 1) 0) && (is_mild (get_or s (j + 2) 0) && (is_mild (get_or s (j + 3) 0) && (is_mild (get_or s (j + 4) 0) && (is_mild (get_or s (j + 5) 0) && (is_mild (get_or s (j + 6) 0) && is_mild (get_or s (j + 7) 0))))))) ≡
    all (λ (x : ℕ). is_mild x) (take 8 (drop j s))
mild-at s j h =
    ap (λ (b : Bool). is_mild (get_or s j 0) && (is_mild (get_or s (j + 1) 0) && (is_mild (get_or s (j + 2) 0) && (is_mild (get_or s (j + 3) 0) && (is_mild (get_or s (j + 4) 0) && (is_mild (get_or s (j + 5) 0) && (is_mild (get_or s (j + 6) 0) && b)))))))
    (sym (and-true (is_mild (get_or s (j + 7) 0))))
    ∙ ap (λ (l : List ℕ). all (λ (x : ℕ). is_mild x) l) (sym (eight_is s j h))

-- a mild byte is plain but for `/` and the backtick
mild-plain : (b : ℕ) → is_mild b ≡ true → (b ≡ 47 → ⊥) → (b ≡ 96 → ⊥) → is_plain b ≡ true
mild-plain b e n m = go (eqb b 32) refl (leb 40 b) refl (ltb b 123) refl
  where
    go : (x : Bool) → eqb b 32 ≡ x → (y : Bool) → leb 40 b ≡ y → (z : Bool) → ltb b 123 ≡ z → is_plain b ≡ true
    go true p y q z r = ap (λ (k : ℕ). is_plain k) (eqb-true b 32 p)
    go false p true q true r =
        let g = leb-true 40 b q in
        let h = ltb-true b 123 r in
        none_of b (omega arith) (omega arith) (omega arith) n m ∙ le-leb b 122 (omega arith)
    go false p true q false r = no (sym (rw (p, q, r) refl) ∙ e)
    go false p false q z r = no (sym (rw (p, q) refl) ∙ e)

lacks-first : (b x : ℕ) (l : List ℕ) → lacks b (x ∷ l) ≡ true → (x ≡ b → ⊥) × (lacks b l ≡ true)
unfolding lacks
lacks-first b x l h = go (eqb x b) refl h
  where
    go : (t : Bool) → eqb x b ≡ t → cond t false (lacks b l) ≡ true → (x ≡ b → ⊥) × (lacks b l ≡ true)
    go true e q = no q
    go false e q = (eqb-false x b e, q)

-- so many plain bytes
plain-skip : (n : ℕ) (l : List ℕ) → n ≤ length l → all (λ (x : ℕ). is_mild x) (take n l) ≡ true → lacks 47 (take n l) ≡ true → lacks 96 (take n l) ≡ true → plain_len l ≡ n + plain_len (drop n l)
unfolding plain_len
plain-skip zero l h a b c = omega arith
plain-skip (suc n) [] h a b c = absurd (omega arith)
plain-skip (suc n) (x ∷ l) h a b c =
    let p = lacks-first 47 x (take n l) b in
    let q = lacks-first 96 x (take n l) c in
    let m = mild-plain x (and_left (is_mild x) (all (λ (y : ℕ). is_mild y) (take n l)) a) p.0 q.0 in
    let k = plain-skip n l (omega arith) (and_right (is_mild x) (all (λ (y : ℕ). is_mild y) (take n l)) a) p.1 q.1 in
    rw m (omega (arith, k))

-- from a plain byte on
plain-inner : (k : ℕ) (l : List ℕ) → k ≤ plain_len l → plain_len l ≡ k + plain_len (drop k l)
unfolding plain_len
plain-inner zero l h = omega arith
plain-inner (suc k) [] h = absurd (omega arith)
plain-inner (suc k) (x ∷ l) h = go (is_plain x) h (plain-inner k l)
  where
    go : (b : Bool) → suc k ≤ cond b (suc (plain_len l)) 0 → (k ≤ plain_len l → plain_len l ≡ k + plain_len (drop k l)) → cond b (suc (plain_len l)) 0 ≡ suc k + plain_len (drop k l)
    go true g f = let r = f (omega arith) in omega arith
    go false g f = absurd (omega arith)

module _ (s : List ℕ) (m : ℕ) (h : m + 8 ≤ length s) (t : all_mild (take 8 (drop m s)) ≡ true) where
  tame-eight : plain_len (drop m s) ≡ 8 + plain_len (drop 8 (drop m s))
  unfolding all_mild
  tame-eight =
      let l : List ℕ = take 8 (drop m s) in
      let u = and_right (all (λ (x : ℕ). is_mild x) l) (lacks 47 l && lacks 96 l) t in
      plain-skip 8 (drop m s) (omega (arith, length-drop m s)) (and_left (all (λ (x : ℕ). is_mild x) l) (lacks 47 l && lacks 96 l) t) (and_left (lacks 47 l) (lacks 96 l) u) (and_right (lacks 47 l) (lacks 96 l) u)

  -- past eight tame bytes
  pub tame-on : ends plain_len s (m + 8) ≡ ends plain_len s m
  tame-on = omega (arith, tame-eight, ap plain_len (drop-drop 8 m s))

  -- the same from one of them on
  pub tame-over : (j : ℕ) → m ≤ j → j ≤ m + 8 → ends plain_len s (m + 8) ≡ ends plain_len s j
  tame-over j p q =
      let k : m + (j - m) ≡ j = omega arith in
      let z : plain_len (drop (j - m) (drop m s)) ≡ plain_len (drop j s) = ap plain_len (drop-drop (j - m) m s) ∙ ap (λ (i : ℕ). plain_len (drop i s)) k in
      omega (arith, plain-inner (j - m) (drop m s) (omega (arith, tame-eight)), tame-on)
