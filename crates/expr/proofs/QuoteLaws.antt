-- Laws of `cut_go`: its steps, and that what is left is no longer. Assumes nothing.
use Prim.Native.Nat.{ℕ, zero, suc, ◌+◌, ◌-◌, ◌≤◌, ◌<◌}
use mathlib.Core.Path.{◌≡◌, refl, sym, ap, ◌∙◌}
use mathlib.Core.Bool.{Bool, true, false, cond, ◌||◌}
use mathlib.Core.List.{List, [], ◌∷◌, ◌++◌}
use native.Mathlib.Omega.{arith}
use native.Mathlib.Nat.{add-zero}
use borrow.Author.Tests.{ne_eqb, eq-eqb}
use lib.Dec.{eqb}
use lib.ListN.{length, take, drop, get_or, length-append, length-drop, drop_of_length-le}
use lib.Seq.{drop-drop, get_or-drop}
use Rattle.lines.specs.Lf.{prefixed, among, part}
use Rattle.lines.specs.Inner.Out.{Wrote}
use Rattle.lines.proofs.Tests.{no, and-false}
use Rattle.lines.proofs.OutLaws.{Writing, writing-as, writing-room, writing-put}
use Rattle.text.specs.Class.{is_quote}
use Rattle.lexical.specs.Lex.{quote_len, quote_shut}
use Rattle.lexical.proofs.EndLaws.{cons-at, quote-le}
use Rattle.expr.specs.Pure.{cut_in}
use Rattle.expr.proofs.CommentLaws.{strip-length}
use Rattle.expr.specs.Quotes.{cut_go, strip_quoted, is_closed}

-- ---- the steps

copy-skip : (k : ℕ) (l : List ℕ) (f : Bool) → cut_go l k f ≡ take k l ++ cut_go (drop k l) 0 f
unfolding cut_go
copy-skip zero l f = refl
copy-skip (suc k) [] f = refl
copy-skip (suc k) (a ∷ l) f = ap (λ (r : List ℕ). a ∷ r) (copy-skip k l f)

cut-quote : (a : ℕ) (l : List ℕ) → is_quote a ≡ true → cut_go (a ∷ l) 0 false ≡ a ∷ take (quote_len l a) l ++ cut_go (drop (quote_len l a) l) 0 false
unfolding cut_go quote_len
cut-quote a [] h = refl
cut-quote a (b ∷ s) h = rw h (ap (λ (r : List ℕ). a ∷ r) (copy-skip (quote_len (b ∷ s) a) (b ∷ s) false))

cut-open : (l : List ℕ) → is_quote (get_or l 0 0) ≡ false → prefixed (47 ∷ 42 ∷ []) l ≡ true → cut_go l 0 false ≡ cut_go (drop 2 l) 0 true
unfolding prefixed cut_go
cut-open [] q h = no h
cut-open (a ∷ []) q h = no (sym (and-false (eqb 47 a)) ∙ h)
cut-open (a ∷ b ∷ s) q h = rw (q, h)

cut_line : (l : List ℕ) → is_quote (get_or l 0 0) ≡ false → prefixed (47 ∷ 42 ∷ []) l ≡ false → prefixed (47 ∷ 47 ∷ []) l ≡ true → cut_go l 0 false ≡ []
unfolding prefixed cut_go
cut_line [] q g h = no h
cut_line (a ∷ []) q g h = no (sym (and-false (eqb 47 a)) ∙ h)
cut_line (a ∷ b ∷ s) q g h = rw (q, g, h)

cut-copy : (l : List ℕ) → 0 < length l → is_quote (get_or l 0 0) ≡ false → prefixed (47 ∷ 42 ∷ []) l ≡ false → prefixed (47 ∷ 47 ∷ []) l ≡ false →
    cut_go l 0 false ≡ get_or l 0 0 ∷ cut_go (drop 1 l) 0 false
unfolding prefixed cut_go
cut-copy [] p q g h = absurd (omega arith)
cut-copy (a ∷ []) p q g h = refl
cut-copy (a ∷ b ∷ s) p q g h = rw (q, g, h)

cut-close : (l : List ℕ) → prefixed (42 ∷ 47 ∷ []) l ≡ true → cut_go l 0 true ≡ 32 ∷ cut_go (drop 2 l) 0 false
unfolding prefixed cut_go
cut-close [] h = no h
cut-close (a ∷ []) h = no (sym (and-false (eqb 42 a)) ∙ h)
cut-close (a ∷ b ∷ s) h = rw h

cut-skip : (l : List ℕ) → 0 < length l → prefixed (42 ∷ 47 ∷ []) l ≡ false → cut_go l 0 true ≡ cut_go (drop 1 l) 0 true
unfolding prefixed cut_go
cut-skip [] p h = absurd (omega arith)
cut-skip (a ∷ []) p h = refl
cut-skip (a ∷ b ∷ s) p h = rw h

first : (s : List ℕ) (i : ℕ) → get_or (drop i s) 0 0 ≡ get_or s i 0
first s i = get_or-drop i s 0 0 ∙ ap (λ (n : ℕ). get_or s n 0) (omega arith)

-- where a literal ends
pub quote-to : (s : List ℕ) (i : ℕ) → i < length s → (e : ℕ) → e ≡ i + 1 + quote_len (drop (i + 1) s) (get_or s i 0) → (i < e) × (e ≤ length s)
quote-to s i p e q = let k = quote-le (drop (i + 1) s) (get_or s i 0) in let d = length-drop (i + 1) s in (omega arith, omega arith)

-- the same at a place of the text
module _ (s : List ℕ) (i : ℕ) {inside : Bool} where
  pub at-close : inside ≡ true → prefixed (42 ∷ 47 ∷ []) (drop i s) ≡ true → cut_go (drop i s) 0 inside ≡ 32 ∷ cut_go (drop (i + 2) s) 0 false
  at-close e h = rw (e, cut-close _ h, drop-drop)

  pub at-skip : i < length s → inside ≡ true → prefixed (42 ∷ 47 ∷ []) (drop i s) ≡ false → cut_go (drop i s) 0 inside ≡ cut_go (drop (i + 1) s) 0 inside
  at-skip p e h = rw (e, cut-skip _ (simp length-drop (omega arith)) h, drop-drop)

  pub at_open : inside ≡ false → is_quote (get_or s i 0) ≡ false → prefixed (47 ∷ 42 ∷ []) (drop i s) ≡ true → cut_go (drop i s) 0 inside ≡ cut_go (drop (i + 2) s) 0 true
  at_open e q h = rw (e, cut-open _ (ap is_quote (first s i) ∙ q) h, drop-drop)

  pub at-line : inside ≡ false → is_quote (get_or s i 0) ≡ false → prefixed (47 ∷ 42 ∷ []) (drop i s) ≡ false → prefixed (47 ∷ 47 ∷ []) (drop i s) ≡ true → cut_go (drop i s) 0 inside ≡ []
  at-line e q g h = rw (e, cut_line _ (ap is_quote (first s i) ∙ q) g h)

  pub at_copy : i < length s → inside ≡ false → is_quote (get_or s i 0) ≡ false → prefixed (47 ∷ 42 ∷ []) (drop i s) ≡ false → prefixed (47 ∷ 47 ∷ []) (drop i s) ≡ false →
      cut_go (drop i s) 0 inside ≡ get_or s i 0 ∷ cut_go (drop (i + 1) s) 0 inside
  at_copy p e q g h = rw (e, cut-copy _ (simp length-drop (omega arith)) (ap is_quote (first s i) ∙ q) g h, drop-drop, get_or-drop, add-zero)

  -- a literal up to the place e
  pub at-quote : i < length s → inside ≡ false → is_quote (get_or s i 0) ≡ true → (e : ℕ) → e ≡ i + 1 + quote_len (drop (i + 1) s) (get_or s i 0) →
      cut_go (drop i s) 0 inside ≡ part i e s ++ cut_go (drop e s) 0 inside
  at-quote p z h e q =
      let x : ℕ = get_or s i 0 in
      let t : List ℕ = drop (i + 1) s in
      let n : ℕ = quote_len t x in
      let w : suc n ≡ e - i = omega arith in
      let here : cut_go (drop i s) 0 false ≡ x ∷ take n t ++ cut_go (drop n t) 0 false = ap (λ (l : List ℕ). cut_go l 0 false) (cons-at s i p) ∙ cut-quote x t h in
      let left : x ∷ take n t ≡ part i e s = ap (λ (l : List ℕ). take (suc n) l) (sym (cons-at s i p)) ∙ ap (λ (k : ℕ). take k (drop i s)) w in
      let rest : drop n t ≡ drop e s = drop-drop n (i + 1) s ∙ ap (λ (k : ℕ). drop k s) (sym q) in
      rw z (here ∙ ap (λ (l : List ℕ). l ++ cut_go (drop n t) 0 false) left ∙ ap (λ (l : List ℕ). part i e s ++ cut_go l 0 false) rest)

pub at-end : (s : List ℕ) (i : ℕ) (inside : Bool) → length s ≤ i → cut_go (drop i s) 0 inside ≡ []
unfolding cut_go
at-end s i inside p = rw (drop_of_length-le s p)

-- a literal that is to be written next: there is room for it, and it is written

module _ {a o : ℕ} {whole d₀ d : List ℕ} (s : List ℕ) (i : ℕ) (inside : Bool) (w : Writing a whole (cut_go (drop i s) 0 inside) d₀ d o)
    (p : i < length s) (z : inside ≡ false) (h : is_quote (get_or s i 0) ≡ true) (e : ℕ) (q : e ≡ i + 1 + quote_len (drop (i + 1) s) (get_or s i 0)) where
  pub literal-room : o + length (part i e s) ≤ length d
  literal-room = let r = writing-room (writing-as (at-quote s i p z h e q) w) in let k = length-append (part i e s) (cut_go (drop e s) 0 inside) in omega arith

  pub literal-put : {d' : List ℕ} {r : ℕ} → Wrote d o (part i e s) d' r → Writing a whole (cut_go (drop e s) 0 inside) d₀ d' r
  literal-put v = writing-put (writing-as (at-quote s i p z h e q) w) v

-- ---- what is left is no longer

cut-le : (s : List ℕ) (k : ℕ) (inside : Bool) → length (cut_go s k inside) ≤ length s
unfolding cut_go
cut-le [] k inside = omega arith
cut-le (a ∷ s) (suc k) inside = omega (arith, cut-le s k inside)
cut-le (a ∷ []) zero false = omega arith
cut-le (a ∷ []) zero true = omega arith
cut-le (a ∷ b ∷ s) zero false =
    go (is_quote a) (prefixed (47 ∷ 42 ∷ []) (a ∷ b ∷ s)) (prefixed (47 ∷ 47 ∷ []) (a ∷ b ∷ s)) _ _ _ (cut-le (b ∷ s) (quote_len (b ∷ s) a) false) (cut-le s 0 true) (cut-le (b ∷ s) 0 false)
  where
    go : (q t u : Bool) (x y z : List ℕ) → length x ≤ suc (length s) → length y ≤ length s → length z ≤ suc (length s) → length (cond q (a ∷ x) (cond t y (cond u [] (a ∷ z)))) ≤ suc (suc (length s))
    go true t u x y z f g h = omega arith
    go false true u x y z f g h = omega arith
    go false false true x y z f g h = omega arith
    go false false false x y z f g h = omega arith
cut-le (a ∷ b ∷ s) zero true = go (prefixed (42 ∷ 47 ∷ []) (a ∷ b ∷ s)) _ _ (cut-le s 0 false) (cut-le (b ∷ s) 0 true)
  where
    go : (t : Bool) (x y : List ℕ) → length x ≤ length s → length y ≤ suc (length s) → length (cond t (32 ∷ x) y) ≤ suc (suc (length s))
    go true x y f g = omega arith
    go false x y f g = omega arith

pub quoted-length : (s : List ℕ) → length (strip_quoted s) ≤ length s
unfolding strip_quoted
quoted-length s = cut-le s 0 false

-- ---- a text that is one literal

either : (q : ℕ) → among (34 ∷ 39 ∷ []) q ≡ (eqb q 34 || eqb q 39)
either q = go (eqb q 34) (eqb q 39)
  where
    go : (u v : Bool) → (u || (v || false)) ≡ (u || v)
    go true v = refl
    go false true = refl
    go false false = refl

module _ (t : List ℕ) (q : ℕ) (h : q ≡ get_or t 0 0) where
  pub closed-other : (eqb q 34 || eqb q 39) ≡ false → is_closed t ≡ false
  unfolding is_closed
  closed-other n = rw (← h, either q ∙ n)

  pub closed-long : (e : ℕ) → e ≡ 1 + quote_len (drop 1 t) q → (e ≡ length t → ⊥) → is_closed t ≡ false
  unfolding is_closed
  closed-long e z n = rw (← h, ne_eqb (suc (quote_len (drop 1 t) q)) (length t) (λ k. n (z ∙ omega arith))) (and-false (among (34 ∷ 39 ∷ []) q))

  pub closed_is : (eqb q 34 || eqb q 39) ≡ true → (e : ℕ) → e ≡ 1 + quote_len (drop 1 t) q → e ≡ length t → is_closed t ≡ quote_shut (drop 1 t) q
  unfolding is_closed
  closed_is n e z k = rw (← h, either q ∙ n, eq-eqb (suc (quote_len (drop 1 t) q)) (length t) (omega arith))

-- ---- by the mode

pub cut-length : (strict : Bool) (s : List ℕ) → length (cut_in strict s) ≤ length s
cut-length true s = quoted-length s
cut-length false s = strip-length s
