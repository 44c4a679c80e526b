-- Laws of `strip`: its steps, and what is left of a text that it has cut. Assumes nothing.
use Prim.Native.Nat.{ℕ, suc, ◌+◌, ◌≤◌, ◌<◌}
use mathlib.Core.Path.{◌≡◌, refl, sym, ap, ◌∙◌}
use mathlib.Core.Bool.{Bool, true, false, cond, not, ◌&&◌}
use mathlib.Core.List.{List, [], ◌∷◌, ◌++◌}
use native.Mathlib.Omega.{arith}
use native.Mathlib.Nat.{add-zero}
use native.Mathlib.Numerals.{add-one}
use borrow.Author.Tests.{ne_eqb, not-true}
use lib.Dec.{eqb}
use lib.ListN.{length, drop, get_or, set, length-drop, drop_of_length-le}
use lib.Seq.{drop-cons, drop-drop, get_or-drop}
use Rattle.lines.specs.Lf.{up_to, prefixed}
use Rattle.lines.specs.Inner.Lf.{lacks}
use Rattle.lines.proofs.Tests.{no, and-true, and-false, and_left, and_right, eqb-sym}
use Rattle.lines.proofs.LfLaws.{lacks-cons, lacks-with}
use Rattle.lines.proofs.OutLaws.{Writing, writing-as, writing-room, writing-put, wrote-byte}
use Rattle.expr.specs.Comments.{strip, strip_comments}
use Rattle.expr.specs.Inner.Comments.{no_comment}

-- ---- two bytes at a place of a text

pub two_here : (x y : ℕ) (s : List ℕ) (i : ℕ) → i + 1 < length s → prefixed (x ∷ y ∷ []) (drop i s) ≡ (eqb x (get_or s i 0) && eqb y (get_or s (i + 1) 0))
unfolding prefixed
two_here x y s i h =
    let h₀ : i < length s = omega arith in
    let h₁ : suc i < length s = omega arith in
    rw (add-one, drop-cons s i 0, drop-cons s (suc i) 0) (ap (λ (b : Bool). eqb x (get_or s i 0) && b) (and-true (eqb y (get_or s (suc i) 0))))

-- two bytes that are there: the text has them
two-long : (x y : ℕ) (l : List ℕ) → prefixed (x ∷ y ∷ []) l ≡ true → 2 ≤ length l
unfolding prefixed
two-long x y [] h = no h
two-long x y (a ∷ []) h = no (sym (and-false (eqb x a)) ∙ h)
two-long x y (a ∷ b ∷ l) h = omega arith

pub two_fits : (x y : ℕ) (s : List ℕ) (i : ℕ) → prefixed (x ∷ y ∷ []) (drop i s) ≡ true → i + 2 ≤ length s
two_fits x y s i h = omega (arith, simp length-drop at (two-long x y (drop i s) h))

-- ---- the steps

strip-open : (l : List ℕ) → prefixed (47 ∷ 42 ∷ []) l ≡ true → strip l false ≡ strip (drop 2 l) true
unfolding prefixed strip
strip-open [] h = no h
strip-open (a ∷ []) h = no (sym (and-false (eqb 47 a)) ∙ h)
strip-open (a ∷ b ∷ s) h = rw h

strip-line : (l : List ℕ) → prefixed (47 ∷ 42 ∷ []) l ≡ false → prefixed (47 ∷ 47 ∷ []) l ≡ true → strip l false ≡ []
unfolding prefixed strip
strip-line [] g h = no h
strip-line (a ∷ []) g h = no (sym (and-false (eqb 47 a)) ∙ h)
strip-line (a ∷ b ∷ s) g h = rw (g, h)

strip-copy : (l : List ℕ) → 0 < length l → prefixed (47 ∷ 42 ∷ []) l ≡ false → prefixed (47 ∷ 47 ∷ []) l ≡ false → strip l false ≡ get_or l 0 0 ∷ strip (drop 1 l) false
unfolding prefixed strip
strip-copy [] p g h = absurd (omega arith)
strip-copy (a ∷ []) p g h = refl
strip-copy (a ∷ b ∷ s) p g h = rw (g, h)

strip-close : (l : List ℕ) → prefixed (42 ∷ 47 ∷ []) l ≡ true → strip l true ≡ 32 ∷ strip (drop 2 l) false
unfolding prefixed strip
strip-close [] h = no h
strip-close (a ∷ []) h = no (sym (and-false (eqb 42 a)) ∙ h)
strip-close (a ∷ b ∷ s) h = rw h

strip-skip : (l : List ℕ) → 0 < length l → prefixed (42 ∷ 47 ∷ []) l ≡ false → strip l true ≡ strip (drop 1 l) true
unfolding prefixed strip
strip-skip [] p h = absurd (omega arith)
strip-skip (a ∷ []) p h = refl
strip-skip (a ∷ b ∷ s) p h = rw h

-- the same at a place of the text
module _ (s : List ℕ) (i : ℕ) {inside : Bool} where
  pub at-close : inside ≡ true → prefixed (42 ∷ 47 ∷ []) (drop i s) ≡ true → strip (drop i s) inside ≡ 32 ∷ strip (drop (i + 2) s) false
  at-close e h = rw (e, strip-close _ h, drop-drop)

  pub at-skip : i < length s → inside ≡ true → prefixed (42 ∷ 47 ∷ []) (drop i s) ≡ false → strip (drop i s) inside ≡ strip (drop (i + 1) s) inside
  at-skip p e h = rw (e, strip-skip _ (simp length-drop (omega arith)) h, drop-drop)

  pub at_open : inside ≡ false → prefixed (47 ∷ 42 ∷ []) (drop i s) ≡ true → strip (drop i s) inside ≡ strip (drop (i + 2) s) true
  at_open e h = rw (e, strip-open _ h, drop-drop)

  pub at-line : inside ≡ false → prefixed (47 ∷ 42 ∷ []) (drop i s) ≡ false → prefixed (47 ∷ 47 ∷ []) (drop i s) ≡ true → strip (drop i s) inside ≡ []
  at-line e g h = rw (e, strip-line _ g h)

  pub at_copy : i < length s → inside ≡ false → prefixed (47 ∷ 42 ∷ []) (drop i s) ≡ false → prefixed (47 ∷ 47 ∷ []) (drop i s) ≡ false → strip (drop i s) inside ≡ get_or s i 0 ∷ strip (drop (i + 1) s) inside
  at_copy p e g h = rw (e, strip-copy _ (simp length-drop (omega arith)) g h, drop-drop, get_or-drop, add-zero)

pub at-end : (s : List ℕ) (i : ℕ) (inside : Bool) → length s ≤ i → strip (drop i s) inside ≡ []
unfolding strip
at-end s i inside p = rw (drop_of_length-le s p)

-- ---- a byte that is to be written next: there is room for it, and it is written

module _ {a b o : ℕ} {whole rest next d₀ d : List ℕ} (w : Writing a whole rest d₀ d o) (e : rest ≡ b ∷ next) where
  pub byte-room : o < length d
  byte-room = omega (arith, writing-room (writing-as e w))

  pub byte_put : Writing a whole next d₀ (set d o b) (o + 1)
  byte_put = writing-put (writing-as e w) (wrote-byte d o b byte-room)

-- ---- what is left of a text: some of its bytes in their order, with spaces between them

cond-by : (P : List ℕ → Type 0) (t : Bool) (x y : List ℕ) → P x → P y → P (cond t x y)
cond-by P true x y p q = p
cond-by P false x y p q = q

-- a fact of a text and what is left of it, where a byte may be passed over or copied, and two bytes may become a space
module _ (P : List ℕ → List ℕ → Type 0)
    (none : (s : List ℕ) → P s [])
    (past : (a : ℕ) (s r : List ℕ) → P s r → P (a ∷ s) r)
    (copy : (a : ℕ) (s r : List ℕ) → P s r → P (a ∷ s) (a ∷ r))
    (space : (a b : ℕ) (s r : List ℕ) → P s r → P (a ∷ b ∷ s) (32 ∷ r)) where
  strip-by : (s : List ℕ) (inside : Bool) → P s (strip s inside)
  unfolding strip
  strip-by [] inside = none []
  strip-by (a ∷ []) false = copy a [] [] (none [])
  strip-by (a ∷ []) true = none (a ∷ [])
  strip-by (a ∷ b ∷ s) false =
      cond-by (P (a ∷ b ∷ s)) (prefixed (47 ∷ 42 ∷ []) (a ∷ b ∷ s)) (strip s true) (cond (prefixed (47 ∷ 47 ∷ []) (a ∷ b ∷ s)) [] (a ∷ strip (b ∷ s) false))
      (past a (b ∷ s) (strip s true) (past b s (strip s true) (strip-by s true)))
      (cond-by (P (a ∷ b ∷ s)) (prefixed (47 ∷ 47 ∷ []) (a ∷ b ∷ s)) [] (a ∷ strip (b ∷ s) false)
      (none (a ∷ b ∷ s))
      (copy a (b ∷ s) (strip (b ∷ s) false) (strip-by (b ∷ s) false)))
  strip-by (a ∷ b ∷ s) true =
      cond-by (P (a ∷ b ∷ s)) (prefixed (42 ∷ 47 ∷ []) (a ∷ b ∷ s)) (32 ∷ strip s false) (strip (b ∷ s) true)
      (space a b s (strip s false) (strip-by s false))
      (past a (b ∷ s) (strip (b ∷ s) true) (strip-by (b ∷ s) true))

-- it is no longer
pub strip-length : (s : List ℕ) → length (strip_comments s) ≤ length s
unfolding strip_comments
strip-length s =
    strip-by (λ (t r : List ℕ). length r ≤ length t)
    (λ t. omega arith)
    (λ a t r h. omega arith)
    (λ a t r h. omega arith)
    (λ a b t r h. omega arith)
    s false

-- it has no byte that the text has not, but the space
pub strip-lacks : (b : ℕ) (s : List ℕ) → lacks b s ≡ true → (b ≡ 32 → ⊥) → lacks b (strip_comments s) ≡ true
unfolding strip_comments lacks
strip-lacks b s h n =
    strip-by (λ (t r : List ℕ). lacks b t ≡ true → lacks b r ≡ true)
    (λ t k. refl)
    (λ a t r f k. f (lacks-cons b a t k).1)
    (λ a t r f k. lacks-with b a r false (lacks-cons b a t k).0 ∙ f (lacks-cons b a t k).1)
    (λ a c t r f k. lacks-with b 32 r false (ne_eqb 32 b (λ e. n (sym e))) ∙ f (lacks-cons b c t (lacks-cons b a (c ∷ t) k).1).1)
    s false h

-- ---- a text that is cut has nothing more to cut

bare-cons : (a : ℕ) (r : List ℕ) → prefixed (47 ∷ 42 ∷ []) (a ∷ r) ≡ false → prefixed (47 ∷ 47 ∷ []) (a ∷ r) ≡ false → no_comment r ≡ true → no_comment (a ∷ r) ≡ true
unfolding no_comment
bare-cons a r g h k = rw (g, h) k

bare-split : (a : ℕ) (s : List ℕ) → no_comment (a ∷ s) ≡ true →
    (prefixed (47 ∷ 42 ∷ []) (a ∷ s) ≡ false) × ((prefixed (47 ∷ 47 ∷ []) (a ∷ s) ≡ false) × (no_comment s ≡ true))
unfolding no_comment
bare-split a s h =
    let t = not (prefixed (47 ∷ 42 ∷ []) (a ∷ s)) in
    let u = not (prefixed (47 ∷ 47 ∷ []) (a ∷ s)) in
    let k = and_left (t && u) (no_comment s) h in
    (not-true _ (and_left t u k), (not-true _ (and_right t u k), and_right (t && u) (no_comment s) h))

-- no pair begins with another byte
pub other : (a : ℕ) (p l : List ℕ) → eqb 47 a ≡ false → prefixed (47 ∷ p) (a ∷ l) ≡ false
unfolding prefixed
other a p l e = rw e

-- a pair of which the first byte is there has another second byte
pub second : (y a b : ℕ) (s : List ℕ) → eqb 47 a ≡ true → prefixed (47 ∷ y ∷ []) (a ∷ b ∷ s) ≡ false → eqb y b ≡ false
unfolding prefixed
second y a b s e h = sym (and-true (eqb y b)) ∙ (rw e at h)

pub pair : (y a b : ℕ) (r s : List ℕ) → prefixed (47 ∷ y ∷ []) (a ∷ b ∷ r) ≡ prefixed (47 ∷ y ∷ []) (a ∷ b ∷ s)
unfolding prefixed
pair y a b r s = refl

-- a byte that is copied begins no comment, whatever is left of the text after it
bare-copy : (a b : ℕ) (s : List ℕ) → prefixed (47 ∷ 42 ∷ []) (a ∷ b ∷ s) ≡ false → prefixed (47 ∷ 47 ∷ []) (a ∷ b ∷ s) ≡ false →
    no_comment (strip (b ∷ s) false) ≡ true → no_comment (a ∷ strip (b ∷ s) false) ≡ true
bare-copy a b s g h k = go (eqb 47 a) refl
  where
    go : (t : Bool) → eqb 47 a ≡ t → no_comment (a ∷ strip (b ∷ s) false) ≡ true
    go false e = bare-cons a (strip (b ∷ s) false) (other a _ _ e) (other a _ _ e) k
    go true e =
        let n = second 47 a b s e h in
        let q = strip-copy (b ∷ s) (omega arith) (other b _ _ n) (other b _ _ n) in
        rw q (bare-cons a (b ∷ strip s false) (pair 42 a b _ s ∙ g) (pair 47 a b _ s ∙ h) (rw q at k))

strip-bare : (s : List ℕ) (inside : Bool) → no_comment (strip s inside) ≡ true
unfolding strip no_comment
strip-bare [] inside = refl
strip-bare (a ∷ []) false = bare-cons a [] (and-false (eqb 47 a)) (and-false (eqb 47 a)) refl
strip-bare (a ∷ []) true = refl
strip-bare (a ∷ b ∷ s) false = go (prefixed (47 ∷ 42 ∷ []) (a ∷ b ∷ s)) refl (prefixed (47 ∷ 47 ∷ []) (a ∷ b ∷ s)) refl (strip-bare s true) (strip-bare (b ∷ s) false)
  where
    go : (t : Bool) → prefixed (47 ∷ 42 ∷ []) (a ∷ b ∷ s) ≡ t → (u : Bool) → prefixed (47 ∷ 47 ∷ []) (a ∷ b ∷ s) ≡ u →
        no_comment (strip s true) ≡ true → no_comment (strip (b ∷ s) false) ≡ true → no_comment (cond t (strip s true) (cond u [] (a ∷ strip (b ∷ s) false))) ≡ true
    go true g u h p q = p
    go false g true h p q = refl
    go false g false h p q = bare-copy a b s g h q
strip-bare (a ∷ b ∷ s) true = cond-by (λ (l : List ℕ). no_comment l ≡ true) (prefixed (42 ∷ 47 ∷ []) (a ∷ b ∷ s)) (32 ∷ strip s false) (strip (b ∷ s) true) (strip-bare s false) (strip-bare (b ∷ s) true)

pub cut-bare : (s : List ℕ) → no_comment (strip_comments s) ≡ true
unfolding strip_comments
cut-bare s = strip-bare s false

pub bare-strip : (s : List ℕ) → no_comment s ≡ true → strip_comments s ≡ s
unfolding strip strip_comments
bare-strip [] h = refl
bare-strip (a ∷ []) h = refl
bare-strip (a ∷ b ∷ s) h = let p = bare-split a (b ∷ s) h in rw (p.0, p.1.0) (ap (λ (l : List ℕ). a ∷ l) (bare-strip (b ∷ s) p.1.1))

-- a text without `/` has no comment
slash-bare : (s : List ℕ) → length s ≤ up_to 47 s → no_comment s ≡ true
unfolding up_to no_comment prefixed
slash-bare [] h = refl
slash-bare (a ∷ s) h = go (eqb a 47) refl h (slash-bare s)
  where
    go : (t : Bool) → eqb a 47 ≡ t → suc (length s) ≤ cond t 0 (suc (up_to 47 s)) → (length s ≤ up_to 47 s → no_comment s ≡ true) → no_comment (a ∷ s) ≡ true
    go true e g on = absurd (omega arith)
    go false e g on = bare-cons a s (rw (eqb-sym 47 a, e)) (rw (eqb-sym 47 a, e)) (on (omega arith))

pub slash-strip : (s : List ℕ) (k : ℕ) → k ≡ 0 + up_to 47 (drop 0 s) → length s ≤ k → strip_comments s ≡ s
slash-strip s k q h = let z : up_to 47 (drop 0 s) ≡ up_to 47 s = refl in bare-strip s (slash-bare s (omega arith))

pub cut-once : (s : List ℕ) → strip_comments (strip_comments s) ≡ strip_comments s
cut-once s = bare-strip (strip_comments s) (cut-bare s)

-- ---- parts of a text without comments have none

pub prefix-less : (p x y : List ℕ) → prefixed p (x ++ y) ≡ false → prefixed p x ≡ false
unfolding prefixed
prefix-less [] x y h = h
prefix-less (c ∷ p) [] y h = refl
prefix-less (c ∷ p) (a ∷ x) y h = go (eqb c a) h (prefix-less p x y)
  where
    go : (t : Bool) → (t && prefixed p (x ++ y)) ≡ false → (prefixed p (x ++ y) ≡ false → prefixed p x ≡ false) → (t && prefixed p x) ≡ false
    go true h f = f h
    go false h f = h

pub bare-left : (x y : List ℕ) → no_comment (x ++ y) ≡ true → no_comment x ≡ true
unfolding no_comment
bare-left [] y h = refl
bare-left (a ∷ x) y h =
    let p = bare-split a (x ++ y) h in
    bare-cons a x (prefix-less (47 ∷ 42 ∷ []) (a ∷ x) y p.0) (prefix-less (47 ∷ 47 ∷ []) (a ∷ x) y p.1.0) (bare-left x y p.1.1)

pub bare-right : (x y : List ℕ) → no_comment (x ++ y) ≡ true → no_comment y ≡ true
bare-right [] y h = h
bare-right (a ∷ x) y h = bare-right x y (bare-split a (x ++ y) h).1.1
