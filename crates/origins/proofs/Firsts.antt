-- Laws of the first of the lines that came out. Assumes nothing.
use Prim.Native.Nat.{ℕ, zero, suc, ◌+◌, ◌-◌, ◌≤◌, ◌<◌, min}
use mathlib.Core.Path.{◌≡◌, refl, sym, ap, ◌∙◌}
use mathlib.Core.Bool.{Bool, true, false, cond, ◌&&◌}
use mathlib.Core.List.{List, [], ◌∷◌}
use native.Mathlib.Omega.{arith}
use borrow.Author.Tests.{eq-eqb, ne_eqb, eqb-true, lt-ltb, le-ltb}
use lib.Dec.{eqb, ltb}
use lib.ListN.{length, take, drop, get_or, length-take, length-drop, get_or-eq_default}
use Rattle.lines.specs.Lf.{up_to, part, prefixed, same}
use Rattle.lines.specs.Inner.Lf.{lacks}
use Rattle.lines.proofs.Tests.{no, and-false, and-true}
use Rattle.lines.proofs.Compare.{same-eq}
use Rattle.lines.proofs.LfLaws.{up_to-le, lacks-cons, rest_of}
use Rattle.origins.specs.declared.Went.TheVariants.{Equal, Changed, Inside, Away}
use Rattle.origins.specs.Inner.Codes.{far_move, half}
use Rattle.origins.proofs.TableLaws.{in-any}
use Rattle.origins.specs.Inner.Written.{bare_by, said_one, first_is, first_end, said_first}

-- ---- the first line

pub first_short : (l s : List ℕ) → length s ≤ length l → prefixed l s ≡ first_is l s
unfolding first_is
first_short l s h = sym (rw (get_or-eq_default s 10 {n = length l} h) (and-true (prefixed l s)))

module _ (l s : List ℕ) (h : length l < length s) where
  pub first_on : get_or s (length l) 0 ≡ 10 → prefixed l s ≡ first_is l s
  unfolding first_is
  first_on e = sym (rw (eq-eqb (get_or s (length l) 10) 10 (in-any s (length l) 10 0 h ∙ e)) (and-true (prefixed l s)))

  pub first_off : (get_or s (length l) 0 ≡ 10 → ⊥) → false ≡ first_is l s
  unfolding first_is
  first_off e = sym (rw (in-any s (length l) 10 0 h, ne_eqb (get_or s (length l) 0) 10 e) (and-false (prefixed l s)))

-- for a line without LF
pub first-same : (l s : List ℕ) → lacks 10 l ≡ true → first_is l s ≡ same l (take (up_to 10 s) s)
unfolding first_is prefixed same up_to
first-same [] [] h = refl
first-same [] (y ∷ s) h = go (eqb y 10)
  where
    go : (b : Bool) → b ≡ same [] (take (cond b 0 (suc (up_to 10 s))) (y ∷ s))
    go true = refl
    go false = refl
first-same (x ∷ l) [] h = refl
first-same (x ∷ l) (y ∷ s) h = go (first-same l s (lacks-cons 10 x l h).1) (eqb y 10) refl (eqb x y) refl
  where
    go : prefixed l s && eqb (get_or s (length l) 10) 10 ≡ same l (take (up_to 10 s) s) → (b : Bool) → eqb y 10 ≡ b → (c : Bool) → eqb x y ≡ c → (c && prefixed l s) && eqb (get_or s (length l) 10) 10 ≡ same (x ∷ l) (take (cond b 0 (suc (up_to 10 s))) (y ∷ s))
    go k true e true f = no (sym (lacks-cons 10 x l h).0 ∙ ap (λ (n : ℕ). eqb n 10) (eqb-true x y f) ∙ e)
    go k true e false f = refl
    go k false e true f = rw f k
    go k false e false f = rw f

pub first-end : (l s : List ℕ) → lacks 10 l ≡ true → first_end l s ≡ up_to 10 s
unfolding first_end
first-end l s h = go (first_is l s) refl
  where
    go : (b : Bool) → first_is l s ≡ b → cond b (length l) (up_to 10 s) ≡ up_to 10 s
    go true e = omega (arith, ap length (same-eq l (take (up_to 10 s) s) (sym (first-same l s h) ∙ e)), length-take (up_to 10 s) s, up_to-le 10 s)
    go false e = refl

-- what stands before the first LF
pub up-lacks : (b n : ℕ) (l : List ℕ) → n ≤ up_to b l → lacks b (take n l) ≡ true
unfolding lacks up_to
up-lacks b zero l h = refl
up-lacks b (suc n) [] h = absurd (omega arith)
up-lacks b (suc n) (x ∷ l) h = go (eqb x b) h (up-lacks b n l)
  where
    go : (t : Bool) → suc n ≤ cond t 0 (suc (up_to b l)) → (n ≤ up_to b l → lacks b (take n l) ≡ true) → cond t false (lacks b (take n l)) ≡ true
    go true k f = absurd (omega arith)
    go false k f = f (omega arith)

-- ---- what is said of a line, by the lines that came out from the next on

module _ (l s : List ℕ) (c : ℕ) where
  pub told-away : c ≡ far_move → Away ≡ said_first l s c
  unfolding said_first
  told-away e = rw e

  pub told-inside : (c ≡ far_move → ⊥) → half ≤ c → Inside (c - half) ≡ said_first l s c
  unfolding said_first
  told-inside e h = rw (le-ltb c half h, ne_eqb c far_move e)

  pub told-kept : (b : Bool) → c < half → first_is l s ≡ b → cond b (Equal c) (Changed c) ≡ said_first l s c
  unfolding said_first
  told-kept b h e = rw (lt-ltb c half h, e)

-- where the next of these begins
pub by-stands : (c a b r : ℕ) → c < half → r ≡ a → r ≡ cond (ltb c half) a b
by-stands c a b r h e = rw (lt-ltb c half h) e

pub by-stays : (c a b : ℕ) → half ≤ c → b ≡ cond (ltb c half) a b
by-stays c a b h = rw (le-ltb c half h)

module _ (t lf : List ℕ) (i e p c x : ℕ) (u : x ≡ i + bare_by (drop i t) (e - i)) where
  abbrev line : List ℕ
  line = part i (i + bare_by (drop i t) (e - i)) t

  pub told_at : (r : Bool) → r ≡ first_is (take (x - i) (drop i t)) (take (length lf - p) (drop p lf)) → r ≡ first_is line (drop p lf)
  told_at r h = h ∙ ap (λ (k : ℕ). first_is (take (k - i) (drop i t)) (take (length lf - p) (drop p lf))) u ∙ ap (first_is line) (rest_of lf p)

  pub next-equal : first_is line (drop p lf) ≡ true → x ≤ length t → c < half → (r : ℕ) → r ≡ min (p + (x - i) + 1) (length lf) → r ≡ cond (ltb c half) (min (p + first_end line (drop p lf) + 1) (length lf)) p
  unfolding first_end
  next-equal f k h r w =
      let n : x - i ≡ length line = omega (arith, u, length-take (i + bare_by (drop i t) (e - i) - i) (drop i t), length-drop i t) in
      by-stands c _ p r h (w ∙ ap (λ (j : ℕ). min (p + j + 1) (length lf)) (n ∙ sym (ap (λ (b : Bool). cond b (length line) (up_to 10 (drop p lf))) f)))

  pub next-changed : first_is line (drop p lf) ≡ false → c < half → (q r : ℕ) → q ≡ p + up_to 10 (drop p lf) → r ≡ min (q + 1) (length lf) → r ≡ cond (ltb c half) (min (p + first_end line (drop p lf) + 1) (length lf)) p
  unfolding first_end
  next-changed f h q r v w =
      by-stands c _ p r h (w ∙ ap (λ (j : ℕ). min (j + 1) (length lf)) v ∙ ap (λ (j : ℕ). min (p + j + 1) (length lf)) (sym (ap (λ (b : Bool). cond b (length line) (up_to 10 (drop p lf))) f)))

-- the same by where that line ends
module _ (l lf : List ℕ) (p q c : ℕ) (z : q ≡ cond (ltb c half) (p + up_to 10 (drop p lf)) p) (h : lacks 10 l ≡ true) where
  pub told-said : said_first l (drop p lf) c ≡ said_one l (part p q lf) c
  unfolding said_first said_one
  told-said = go (ltb c half) z
    where
      go : (b : Bool) → q ≡ cond b (p + up_to 10 (drop p lf)) p →
          cond b (cond (first_is l (drop p lf)) (Equal c) (Changed c)) (cond (eqb c far_move) Away (Inside (c - half))) ≡ cond b (cond (same l (part p q lf)) (Equal c) (Changed c)) (cond (eqb c far_move) Away (Inside (c - half)))
      go true v =
          let n : up_to 10 (drop p lf) ≡ q - p = omega arith in
          ap (λ (t : Bool). cond t (Equal c) (Changed c)) (first-same l (drop p lf) h ∙ ap (λ (k : ℕ). same l (take k (drop p lf))) n)
      go false v = refl

  pub told-next : (r : ℕ) → r ≡ cond (ltb c half) (min (p + first_end l (drop p lf) + 1) (length lf)) p → r ≡ cond (ltb c half) (min (q + 1) (length lf)) q
  told-next r w = go (ltb c half) z w
    where
      go : (b : Bool) → q ≡ cond b (p + up_to 10 (drop p lf)) p → r ≡ cond b (min (p + first_end l (drop p lf) + 1) (length lf)) p → r ≡ cond b (min (q + 1) (length lf)) q
      go true v u = u ∙ ap (λ (k : ℕ). min (k + 1) (length lf)) (ap (λ (k : ℕ). p + k) (first-end l (drop p lf) h) ∙ sym v)
      go false v u = u ∙ sym v
