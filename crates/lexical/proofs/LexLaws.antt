-- Cleaning a line step by step: what a loop over steps needs, and what the cleaned line is like. Assumes nothing.
use Prim.Native.Nat.{ℕ, zero, suc, ◌+◌, ◌-◌, ◌≤◌, ◌<◌}
use mathlib.Core.Path.{◌≡◌, refl, sym, ap, ◌∙◌}
use mathlib.Core.Bool.{true}
use mathlib.Core.List.{List, [], ◌∷◌, ◌++◌}
use native.Mathlib.Omega.{arith}
use lib.ListN.{length, drop, get_or, length-append, length-drop, drop_of_length-le}
use lib.Seq.{drop-drop, get_or-drop}
use Rattle.lines.specs.Inner.Lf.{lacks}
use Rattle.lines.specs.Inner.Out.{Wrote}
use Rattle.lines.proofs.LfLaws.{lacks-append, lacks-take, lacks-drop}
use Rattle.lines.proofs.OutLaws.{wrote-nil, wrote_then, wrote_as, wrote-length}
use Rattle.lexical.specs.declared.Kind.{Kind}
use Rattle.lexical.specs.declared.Kind.TheVariants.{Kept, Literal, Gone}
use Rattle.lexical.specs.declared.Token.{Token}
use Rattle.lexical.specs.declared.Tail.{Tail}
use Rattle.lexical.specs.declared.Step.{Step}
use Rattle.lexical.specs.Lex.{last_of, token_of, leaves, lex_go, strip_lexical}
use Rattle.lexical.specs.Inner.Lex.{token_at, tail_of, grown, clean_step}
use Rattle.lexical.proofs.EndLaws.{cons-at}
use Rattle.lexical.proofs.TokenLaws.{size-some, size-le}
use Rattle.lexical.proofs.TailLaws.{grown-tail}

-- ---- one step

lex-skip : (k : ℕ) (l out : List ℕ) → lex_go l k out ≡ lex_go (drop k l) 0 out
unfolding lex_go
lex-skip zero l out = refl
lex-skip (suc k) [] out = refl
lex-skip (suc k) (x ∷ xs) out = lex-skip k xs out

lex-first : (x : ℕ) (xs out : List ℕ) → lex_go (x ∷ xs) 0 out ≡ lex_go (drop ((token_of (last_of out) x xs).size - 1) xs) 0 (out ++ leaves (token_of (last_of out) x xs).kind x)
unfolding lex_go
lex-first x xs out = lex-skip ((token_of (last_of out) x xs).size - 1) xs (out ++ leaves (token_of (last_of out) x xs).kind x)

-- the first byte of what stands at i
pub head_at : (s : List ℕ) (i : ℕ) → get_or (drop i s) 0 0 ≡ get_or s i 0
head_at s i = get_or-drop i s 0 0 ∙ ap (λ (n : ℕ). get_or s n 0) (omega arith)

module _ (s : List ℕ) (i : ℕ) (t : Tail) (h : i < length s) where
  token-here : (out : List ℕ) → t ≡ tail_of out → token_at t.last (drop i s) ≡ token_of (last_of out) (get_or s i 0) (drop (i + 1) s)
  unfolding token_at tail_of
  token-here out e = rw (cons-at s i h, e)

  -- a step goes on, and not past the end
  pub step-on : i < (clean_step i t (drop i s)).next
  unfolding clean_step
  step-on = let d = length-drop i s in let k = size-some t.last (drop i s) (omega arith) in omega arith

  pub step-le : (clean_step i t (drop i s)).next ≤ length s
  unfolding clean_step
  step-le = let d = length-drop i s in let k = size-le t.last (drop i s) in omega arith

  -- what is left to do, with what the step leaves
  pub step-lex : (out : List ℕ) → t ≡ tail_of out → lex_go (drop i s) 0 out ≡ lex_go (drop (clean_step i t (drop i s)).next s) 0 (out ++ leaves (clean_step i t (drop i s)).kind (get_or s i 0))
  unfolding clean_step
  step-lex out e =
      let k : Token = token_at t.last (drop i s) in
      let x : ℕ = get_or s i 0 in
      let xs : List ℕ = drop (i + 1) s in
      let b = size-some t.last (drop i s) (omega (arith, length-drop i s)) in
      let p : i + 1 + (k.size - 1) ≡ i + k.size = omega arith in
      ap (λ (l : List ℕ). lex_go l 0 out) (cons-at s i h)
      ∙ lex-first x xs out
      ∙ ap (λ (m : Token). lex_go (drop (m.size - 1) xs) 0 (out ++ leaves m.kind x)) (sym (token-here out e))
      ∙ ap (λ (l : List ℕ). lex_go l 0 (out ++ leaves k.kind x)) (drop-drop (k.size - 1) (i + 1) s ∙ ap (λ (n : ℕ). drop n s) p)

  -- the digest of the text with what the step leaves
  pub step-tail : (out : List ℕ) → t ≡ tail_of out → (clean_step i t (drop i s)).tail ≡ tail_of (out ++ leaves (clean_step i t (drop i s)).kind (get_or s i 0))
  unfolding clean_step
  step-tail out e =
      let k : Token = token_at t.last (drop i s) in
      ap (λ (b : ℕ). grown t (leaves k.kind b)) (head_at s i) ∙ ap (λ (u : Tail). grown u (leaves k.kind (get_or s i 0))) e ∙ grown-tail (leaves k.kind (get_or s i 0)) out

-- ---- what a token leaves

pub leaves-le : (k : Kind) (x : ℕ) → length (leaves k x) ≤ 1
leaves-le Kept x = omega arith
leaves-le Literal x = omega arith
leaves-le Gone x = omega arith

leaves-no_lf : (k : Kind) (x : ℕ) (xs : List ℕ) → lacks 10 (x ∷ xs) ≡ true → lacks 10 (leaves k x) ≡ true
unfolding lacks
leaves-no_lf Kept x xs h = lacks-take 1 (x ∷ xs) h
leaves-no_lf Literal x xs h = refl
leaves-no_lf Gone x xs h = refl

lex-grows : (l : List ℕ) (k : ℕ) (out : List ℕ) → length out ≤ length (lex_go l k out)
unfolding lex_go
lex-grows [] k out = omega arith
lex-grows (x ∷ xs) (suc k) out = lex-grows xs k out
lex-grows (x ∷ xs) zero out =
    let t : Token = token_of (last_of out) x xs in
    let r = lex-grows xs (t.size - 1) (out ++ leaves t.kind x) in
    omega (arith, length-append out (leaves t.kind x))

-- ---- a loop over steps

-- i is the place of the next token, and t the digest of what is left so far
pub record LexAt (s : List ℕ) (i : ℕ) (t : Tail) (out : List ℕ) : Type 0 where
  pub i≤ : i ≤ length s
  pub tail : t ≡ tail_of out
  pub so_far : lex_go (drop i s) 0 out ≡ strip_lexical s

pub lex-start : (s : List ℕ) (t : Tail) → t ≡ tail_of [] → LexAt s 0 t []
unfolding strip_lexical
lex-start s t e = record { i≤ = omega arith; tail = e; so_far = refl }

module _ {s out : List ℕ} {i : ℕ} {t : Tail} (h : LexAt s i t out) where
  pub lex-next : (r : Step) → r ≡ clean_step i t (drop i s) → i < length s → LexAt s r.next r.tail (out ++ leaves r.kind (get_or s i 0))
  lex-next r q l = rw q (record {
    i≤ = step-le s i t l;
    tail = step-tail s i t l out h.tail;
    so_far = sym (step-lex s i t l out h.tail) ∙ h.so_far;
  })

  pub lex-on : (r : Step) → r ≡ clean_step i t (drop i s) → i < length s → i < r.next
  lex-on r q l = rw q (step-on s i t l)

  pub lex-end : length s ≤ i → out ≡ strip_lexical s
  unfolding lex_go
  lex-end l = ap (λ (m : List ℕ). lex_go m 0 out) (sym (drop_of_length-le s l)) ∙ h.so_far

  -- what is left so far is no more than is left in the end
  pub lex-room : length out ≤ length (strip_lexical s)
  lex-room = let k = lex-grows (drop i s) 0 out in let e = ap length h.so_far in omega arith

-- the loop of `strip_lexical`
pub record StripInv (s d₀ : List ℕ) (o : ℕ) (d : List ℕ) (p i : ℕ) (t : Tail) : Type 0 where
  pub room : o + length (strip_lexical s) ≤ length d₀
  pub done : List ℕ
  pub lex : LexAt s i t done
  pub wrote : Wrote d₀ o done d p

pub strip-start : (s d : List ℕ) (o : ℕ) (t : Tail) → o + length (strip_lexical s) ≤ length d → t ≡ tail_of [] → StripInv s d o d o 0 t
strip-start s d o t r e = record { room = r; done = []; lex = lex-start s t e; wrote = wrote-nil d o (omega arith) }

module _ {s d₀ d : List ℕ} {o p i : ℕ} {t : Tail} (h : StripInv s d₀ o d p i t) (r : Step) (q : r ≡ clean_step i t (drop i s)) (l : i < length s) where
  pub strip-fits : p + length (leaves r.kind (get_or s i 0)) ≤ length d
  strip-fits =
      omega (
        arith,
        lex-room (lex-next h.lex r q l),
        length-append h.done (leaves r.kind (get_or s i 0)),
        wrote-length h.wrote,
        h.wrote.place,
        h.room,
      )

  pub strip-next : (d' : List ℕ) (p' : ℕ) → Wrote d p (leaves r.kind (get_or s i 0)) d' p' → StripInv s d₀ o d' p' r.next r.tail
  strip-next d' p' w = record { room = h.room; done = h.done ++ leaves r.kind (get_or s i 0); lex = lex-next h.lex r q l; wrote = wrote_then h.wrote w }

pub strip-end : {s d₀ d : List ℕ} {o p i : ℕ} {t : Tail} → StripInv s d₀ o d p i t → length s ≤ i → Wrote d₀ o (strip_lexical s) d p
strip-end h l = wrote_as (lex-end h.lex l) h.wrote

-- ---- the whole line

-- a line grows no longer
lex-length : (l : List ℕ) (k : ℕ) (out : List ℕ) → length (lex_go l k out) ≤ length out + length l
unfolding lex_go
lex-length [] k out = omega arith
lex-length (x ∷ xs) (suc k) out = let r = lex-length xs k out in omega arith
lex-length (x ∷ xs) zero out =
    let t : Token = token_of (last_of out) x xs in
    let r = lex-length xs (t.size - 1) (out ++ leaves t.kind x) in
    let a = length-append out (leaves t.kind x) in
    let b = leaves-le t.kind x in
    omega arith

pub strip-length : (l : List ℕ) → length (strip_lexical l) ≤ length l
unfolding strip_lexical
strip-length l = let r = lex-length l 0 [] in omega arith

-- and gets no LF
lex-no_lf : (l : List ℕ) (k : ℕ) (out : List ℕ) → lacks 10 l ≡ true → lacks 10 out ≡ true → lacks 10 (lex_go l k out) ≡ true
unfolding lex_go
lex-no_lf [] k out p q = q
lex-no_lf (x ∷ xs) (suc k) out p q = lex-no_lf xs k out (lacks-drop 1 (x ∷ xs) p) q
lex-no_lf (x ∷ xs) zero out p q =
    let t : Token = token_of (last_of out) x xs in
    lex-no_lf xs (t.size - 1) (out ++ leaves t.kind x) (lacks-drop 1 (x ∷ xs) p) (lacks-append out (leaves t.kind x) q (leaves-no_lf t.kind x xs p))

pub strip-no_lf : (l : List ℕ) → lacks 10 l ≡ true → lacks 10 (strip_lexical l) ≡ true
unfolding strip_lexical lacks
strip-no_lf l h = lex-no_lf l 0 [] h refl
