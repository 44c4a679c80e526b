-- Laws of plain references, of primary expressions, and of what is written in parentheses. Assumes nothing.
use Prim.Native.Nat.{ℕ, zero, suc, ◌+◌, ◌-◌, ◌≤◌, ◌<◌}
use mathlib.Core.Path.{◌≡◌, refl, sym, ap, ◌∙◌}
use mathlib.Core.Bool.{Bool, true, false, cond, not, ◌&&◌, ◌||◌}
use mathlib.Core.List.{List, [], ◌∷◌, ◌++◌}
use native.Mathlib.Omega.{arith}
use borrow.Author.Tests.{lt-ltb}
use lib.Dec.{eqb, ltb, leb-suc-suc}
use lib.ListN.{length, drop, get_or, length-drop, length-append, drop_of_length-le}
use lib.Seq.{drop-drop}
use Rattle.lines.specs.Lf.{among, up_to}
use Rattle.lines.specs.Inner.Lf.{lacks}
use Rattle.lines.proofs.Tests.{no, eqb-sym}
use Rattle.lines.proofs.LfLaws.{lacks-append}
use Rattle.std.specs.List.{list_all}
use Rattle.text.specs.Class.{is_quote}
use Rattle.names.specs.Names.{is_ident}
use Rattle.lexical.specs.declared.Token.{Token}
use Rattle.lexical.specs.Lex.{quote_len}
use Rattle.lexical.specs.Inner.Lex.{token_at}
use Rattle.lexical.proofs.EndLaws.{cons-at}
use Rattle.lexical.proofs.TokenLaws.{token-quote, size-some, size-le}
use Rattle.forms.specs.Primary.{all_idents, keyword, is_operator, opened, closed, bare_go, primary, bare, paren_if_needed}

-- ---- one of some bytes

-- a byte is one of some where it is found among them
among-is : (bs : List ℕ) (x : ℕ) → ltb (up_to x bs) (length bs) ≡ among bs x
unfolding up_to
among-is [] x = refl
among-is (b ∷ bs) x = rw (eqb-sym b x) (go (eqb x b) (among-is bs x))
  where
    go : (t : Bool) → ltb (up_to x bs) (length bs) ≡ among bs x → ltb (cond t 0 (suc (up_to x bs))) (suc (length bs)) ≡ t || among bs x
    go true ih = lt-ltb 0 (suc (length bs)) (omega arith)
    go false ih = leb-suc-suc (suc (up_to x bs)) (length bs) ∙ ih

pub among-found : (bs : List ℕ) (x k : ℕ) → k ≡ 0 + up_to x bs → ltb k (length bs) ≡ among bs x
among-found bs x k e = let q : k ≡ up_to x bs = omega arith in rw q (among-is bs x)

-- ---- every piece

pub idents-all : (ps : List (List ℕ)) → list_all is_ident ps ≡ all_idents ps
unfolding all_idents
idents-all [] = refl
idents-all (p ∷ ps) = ap (λ (b : Bool). is_ident p && b) (idents-all ps)

-- ---- the loop of `no_operator`

-- the bytes of a quote are passed
bare-skip : (k : ℕ) (l : List ℕ) (o c : ℕ) → bare_go l k o c ≡ bare_go (drop k l) 0 o c
unfolding bare_go
bare-skip zero l o c = refl
bare-skip (suc k) [] o c = refl
bare-skip (suc k) (x ∷ xs) o c = bare-skip k xs o c

-- one byte: it opens a quote, it is an operator outside brackets, or it is passed
module _ (x : ℕ) (xs : List ℕ) (o c : ℕ) where
  quoted : is_quote x ≡ true → bare_go (x ∷ xs) 0 o c ≡ bare_go xs (quote_len xs x) o c
  unfolding bare_go
  quoted h = rw h

  stopped : is_quote x ≡ false → is_operator x && eqb o c ≡ true → bare_go (x ∷ xs) 0 o c ≡ false
  unfolding bare_go
  stopped h k = rw (h, k)

  passed : is_quote x ≡ false → is_operator x && eqb o c ≡ false → bare_go (x ∷ xs) 0 o c ≡ bare_go xs 0 (opened x o) (closed x c)
  unfolding bare_go
  passed h k = rw (h, k)

-- a quote is no `/`
quote-other : (x : ℕ) → is_quote x ≡ true → x ≡ 47 → ⊥
quote-other x h e = no (rw e at h)

-- i bytes have been passed, with o brackets opened and c closed
pub record BareInv (t : List ℕ) (i o c : ℕ) : Type 0 where
  pub o≤ : o ≤ i
  pub c≤ : c ≤ i
  pub so_far : bare_go (drop i t) 0 o c ≡ bare_go t 0 0 0

pub bare-start : (t : List ℕ) → BareInv t 0 0 0
bare-start t = record { o≤ = omega arith; c≤ = omega arith; so_far = refl }

-- a count grows by one at most
bump-le : (b : Bool) (n : ℕ) → cond b (suc n) n ≤ suc n
bump-le true n = omega arith
bump-le false n = omega arith

-- a token at a place of a text has a byte, and does not go past the end
module _ (t : List ℕ) (i : ℕ) (h : i < length t) (k : Token) (e : k ≡ token_at 256 (drop i t)) where
  pub token-some : 1 ≤ k.size
  token-some = rw e (size-some 256 (drop i t) (omega (arith, length-drop i t)))

  pub token-in : i + k.size ≤ length t
  token-in = let q : k.size ≤ length (drop i t) = rw e (size-le 256 (drop i t)) in omega (arith, length-drop i t)

-- the end, and each way through a turn
module _ {t : List ℕ} {i o c : ℕ} (v : BareInv t i o c) where
  pub bare-end : length t ≤ i → true ≡ bare_go t 0 0 0
  unfolding bare_go
  bare-end h = sym (ap (λ (l : List ℕ). bare_go l 0 o c) (drop_of_length-le t h)) ∙ v.so_far

  module _ (h : i < length t) where
    head : bare_go (drop i t) 0 o c ≡ bare_go (get_or t i 0 ∷ drop (i + 1) t) 0 o c
    head = ap (λ (l : List ℕ). bare_go l 0 o c) (cons-at t i h)

    pub bare-stop : is_quote (get_or t i 0) ≡ false → is_operator (get_or t i 0) && eqb o c ≡ true → false ≡ bare_go t 0 0 0
    bare-stop q b = sym (head ∙ stopped (get_or t i 0) (drop (i + 1) t) o c q b) ∙ v.so_far

    pub bare-on : is_quote (get_or t i 0) ≡ false → is_operator (get_or t i 0) && eqb o c ≡ false → (o' c' : ℕ) → o' ≡ opened (get_or t i 0) o → c' ≡ closed (get_or t i 0) c → BareInv t (i + 1) o' c'
    bare-on q b o' c' p r = record {
      o≤ = let l = v.o≤ in omega (arith, bump-le (among (40 ∷ 91 ∷ 123 ∷ []) (get_or t i 0)) o);
      c≤ = let l = v.c≤ in omega (arith, bump-le (among (41 ∷ 93 ∷ 125 ∷ []) (get_or t i 0)) c);
      so_far = rw (p, r) (sym (head ∙ passed (get_or t i 0) (drop (i + 1) t) o c q b) ∙ v.so_far);
    }

    pub bare-quote : is_quote (get_or t i 0) ≡ true → (k : Token) → k ≡ token_at 256 (drop i t) → BareInv t (i + k.size) o c
    bare-quote q k e =
        let x : ℕ = get_or t i 0 in
        let z : (token_at 256 (drop i t)).size ≡ i + 1 + quote_len (drop (i + 1) t) x - i = ap (λ (w : Token). w.size) (token-quote 256 t i h (i + 1 + quote_len (drop (i + 1) t) x) refl (quote-other x q) q) in
        let n : i + 1 + quote_len (drop (i + 1) t) x ≡ i + k.size = rw e (omega (arith, z)) in
        let p : bare_go (drop i t) 0 o c ≡ bare_go (drop (i + k.size) t) 0 o c =
        head ∙ quoted x (drop (i + 1) t) o c q ∙ bare-skip (quote_len (drop (i + 1) t) x) (drop (i + 1) t) o c
        ∙ ap (λ (l : List ℕ). bare_go l 0 o c) (drop-drop (quote_len (drop (i + 1) t) x) (i + 1) t ∙ ap (λ (m : ℕ). drop m t) n) in
        record { o≤ = let l = v.o≤ in omega arith; c≤ = let l = v.c≤ in omega arith; so_far = sym p ∙ v.so_far }

-- ---- `is_primary_expr`, its tests in order

pub primary-none : (t : List ℕ) → length t ≡ 0 → primary t ≡ false
unfolding primary
primary-none [] h = refl
primary-none (x ∷ t) h = absurd (omega arith)

module _ (t : List ℕ) (n : length t ≡ 0 → ⊥) where
  primary-some : primary t ≡ not (among (45 ∷ 43 ∷ 33 ∷ 126 ∷ 63 ∷ 123 ∷ []) (get_or t 0 0)) && (not (keyword t) && bare_go t 0 0 0)
  unfolding primary
  primary-some = go t n
    where
      go : (l : List ℕ) → (length l ≡ 0 → ⊥) → primary l ≡ not (among (45 ∷ 43 ∷ 33 ∷ 126 ∷ 63 ∷ 123 ∷ []) (get_or l 0 0)) && (not (keyword l) && bare_go l 0 0 0)
      go [] n = absurd (n refl)
      go (x ∷ xs) n = refl

  pub primary-unary : among (45 ∷ 43 ∷ 33 ∷ 126 ∷ 63 ∷ 123 ∷ []) (get_or t 0 0) ≡ true → primary t ≡ false
  primary-unary u = primary-some ∙ rw u

  module _ (u : among (45 ∷ 43 ∷ 33 ∷ 126 ∷ 63 ∷ 123 ∷ []) (get_or t 0 0) ≡ false) where
    pub primary-keyword : keyword t ≡ true → primary t ≡ false
    primary-keyword k = primary-some ∙ rw (u, k)

    pub primary-walk : keyword t ≡ false → primary t ≡ bare_go t 0 0 0
    primary-walk k = primary-some ∙ rw (u, k)

-- ---- what is written

module _ (rhs : List ℕ) (n : Bool) where
  pub paren-bare : bare rhs n ≡ true → paren_if_needed rhs n ≡ rhs
  unfolding paren_if_needed
  paren-bare e = rw e

  pub paren-held : bare rhs n ≡ false → paren_if_needed rhs n ≡ (40 ∷ []) ++ rhs ++ (41 ∷ [])
  unfolding paren_if_needed
  paren-held e = rw e

  pub paren-two : bare rhs n ≡ false → length (paren_if_needed rhs n) ≡ length rhs + 2
  paren-two e = omega (arith, ap length (paren-held e), length-append ((40 ∷ []) ++ rhs) (41 ∷ []))

  -- two bytes more at most
  pub paren-length : length (paren_if_needed rhs n) ≤ length rhs + 2
  paren-length = go (bare rhs n) refl
    where
      go : (b : Bool) → bare rhs n ≡ b → length (paren_if_needed rhs n) ≤ length rhs + 2
      go true e = omega (arith, ap length (paren-bare e))
      go false e = omega (arith, paren-two e)

  -- no LF comes in
  pub paren-lacks : lacks 10 rhs ≡ true → lacks 10 (paren_if_needed rhs n) ≡ true
  unfolding lacks
  paren-lacks h = go (bare rhs n) refl
    where
      go : (b : Bool) → bare rhs n ≡ b → lacks 10 (paren_if_needed rhs n) ≡ true
      go true e = ap (lacks 10) (paren-bare e) ∙ h
      go false e = ap (lacks 10) (paren-held e) ∙ lacks-append ((40 ∷ []) ++ rhs) (41 ∷ []) h refl
