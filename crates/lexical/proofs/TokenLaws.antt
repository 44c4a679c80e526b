-- The token at a place, from its bytes, and how far it goes. Assumes nothing.
use Prim.Native.Nat.{ℕ, suc, ◌+◌, ◌-◌, ◌≤◌, ◌<◌}
use mathlib.Core.Path.{◌≡◌, refl, ap, ◌∙◌}
use mathlib.Core.Bool.{Bool, true, false, cond, ◌&&◌}
use mathlib.Core.List.{List, [], ◌∷◌}
use native.Mathlib.Omega.{arith}
use borrow.Author.Tests.{ne_eqb}
use lib.Dec.{T, leb, eqb, leb→le}
use lib.ListN.{length, drop, get_or, length-drop, drop_of_length-le}
use lib.Seq.{drop-drop}
use Rattle.lines.specs.Lf.{among, prefixed, all}
use Rattle.lines.proofs.Tests.{no, T-left, T-right}
use Rattle.text.specs.Class.{is_quote}
use Rattle.lexical.specs.declared.Kind.TheVariants.{Kept, Literal, Gone}
use Rattle.lexical.specs.declared.Token.{Token}
use Rattle.lexical.specs.Lex.{quote_len, pattern_len, comment_len, pattern_after, token, token_of}
use Rattle.lexical.specs.Inner.Lex.{token_at}
use Rattle.lexical.proofs.ByteLaws.{first-is}
use Rattle.lexical.proofs.EndLaws.{cons-at, ends, quotes, patterns, next-byte, quote-le, pattern-le, comment-le}

-- ---- tests of one byte

-- a number above all of a list is none of them
among-above : (m x : ℕ) (bs : List ℕ) → T (all (λ b. leb b m) bs) → m < x → among bs x ≡ false
among-above m x [] t h = refl
among-above m x (b ∷ bs) t h =
    let k = leb→le b m (T-left (leb b m) _ t) in
    rw (ne_eqb x b (omega arith)) (among-above m x bs (T-right (leb b m) _ t) h)

-- no number above the bytes starts a pattern; the list is that of `opens_pattern`
pub opens-above : (last : ℕ) → 256 < last → pattern_after last ≡ false
opens-above last h =
    rw (ne_eqb last 256 (omega arith))
    (among-above 255 last
    (61 ∷ 40 ∷ 44 ∷ 58 ∷ 91 ∷ 33 ∷ 38 ∷ 124 ∷ 63 ∷ 123 ∷ 125 ∷ 59 ∷ 43 ∷ 45 ∷ 42 ∷ 37 ∷ 94 ∷ 126 ∷ 60 ∷ 62 ∷ [])
    tt (omega arith))

-- ---- the token at a place

pub token-none : (last : ℕ) (s : List ℕ) (i : ℕ) → length s ≤ i → token_at last (drop i s) ≡ token 0 Gone
unfolding token_at
token-none last s i h = rw (drop_of_length-le s h)

-- whether b is the byte after the place i
pub next-is : (s : List ℕ) (i b : ℕ) → (b ≡ 0 → ⊥) → prefixed (b ∷ []) (drop (i + 1) s) ≡ eqb (get_or s (i + 1) 0) b
next-is s i b n = first-is b (drop (i + 1) s) n ∙ ap (λ (y : ℕ). eqb y b) (next-byte s i)

module _ (last : ℕ) (s : List ℕ) (i : ℕ) (h : i < length s) where
  pub token-place : token_at last (drop i s) ≡ token_of last (get_or s i 0) (drop (i + 1) s)
  unfolding token_at
  token-place = rw (cons-at s i h)

  pub token-line : get_or s i 0 ≡ 47 → get_or s (i + 1) 0 ≡ 47 → token_at last (drop i s) ≡ token (length s - i) Gone
  unfolding token_of
  token-line x y =
      let p : prefixed (47 ∷ []) (drop (i + 1) s) ≡ true = next-is s i 47 (omega arith) ∙ ap (λ (b : ℕ). eqb b 47) y in
      let n : suc (length (drop (i + 1) s)) ≡ length s - i = omega (arith, length-drop (i + 1) s) in
      token-place ∙ rw (x, p, n)

  pub token_block : (e : ℕ) → e ≡ ends comment_len s (i + 1 + 1) → get_or s i 0 ≡ 47 → get_or s (i + 1) 0 ≡ 42 → token_at last (drop i s) ≡ token (e - i) Gone
  unfolding token_of
  token_block e q x y =
      let p : prefixed (47 ∷ []) (drop (i + 1) s) ≡ false = next-is s i 47 (omega arith) ∙ ap (λ (b : ℕ). eqb b 47) y in
      let k : prefixed (42 ∷ []) (drop (i + 1) s) ≡ true = next-is s i 42 (omega arith) ∙ ap (λ (b : ℕ). eqb b 42) y in
      let d : drop 1 (drop (i + 1) s) ≡ drop (i + 1 + 1) s = drop-drop 1 (i + 1) s in
      let n : 2 + comment_len (drop (i + 1 + 1) s) ≡ e - i = omega arith in
      token-place ∙ rw (x, p, k, d, n)

  module _ (x : get_or s i 0 ≡ 47) (n₁ : get_or s (i + 1) 0 ≡ 47 → ⊥) (n₂ : get_or s (i + 1) 0 ≡ 42 → ⊥) where
    p₁ : prefixed (47 ∷ []) (drop (i + 1) s) ≡ false
    p₁ = next-is s i 47 (omega arith) ∙ ne_eqb (get_or s (i + 1) 0) 47 n₁

    p₂ : prefixed (42 ∷ []) (drop (i + 1) s) ≡ false
    p₂ = next-is s i 42 (omega arith) ∙ ne_eqb (get_or s (i + 1) 0) 42 n₂

    pub token-pattern : (e : ℕ) → e ≡ ends (patterns false) s (i + 1) → pattern_after last ≡ true → token_at last (drop i s) ≡ token (e - i) Literal
    unfolding token_of
    token-pattern e q k =
        let n : suc (pattern_len (drop (i + 1) s) false) ≡ e - i = omega arith in
        token-place ∙ rw (x, p₁, p₂, k, n)

    pub token-slash : pattern_after last ≡ false → token_at last (drop i s) ≡ token 1 Kept
    unfolding token_of
    token-slash k = token-place ∙ rw (x, p₁, p₂, k)

  pub token-quote : (e : ℕ) → e ≡ ends (quotes (get_or s i 0)) s (i + 1) → (get_or s i 0 ≡ 47 → ⊥) → is_quote (get_or s i 0) ≡ true → token_at last (drop i s) ≡ token (e - i) Literal
  unfolding token_of
  token-quote e q n k =
      let m : suc (quote_len (drop (i + 1) s) (get_or s i 0)) ≡ e - i = omega arith in
      token-place ∙ rw (ne_eqb (get_or s i 0) 47 n, k, m)

  pub token-kept : (get_or s i 0 ≡ 47 → ⊥) → is_quote (get_or s i 0) ≡ false → token_at last (drop i s) ≡ token 1 Kept
  unfolding token_of
  token-kept n k = token-place ∙ rw (ne_eqb (get_or s i 0) 47 n, k)

-- ---- a token has a byte, and does not go past the end

size_of : (last x : ℕ) (xs : List ℕ) → (1 ≤ (token_of last x xs).size) × ((token_of last x xs).size ≤ suc (length xs))
unfolding token_of prefixed
size_of last x xs = go (eqb x 47 && prefixed (47 ∷ []) xs) (eqb x 47) (prefixed (42 ∷ []) xs) (λ e. block xs e) (is_quote x) (eqb x 47 && pattern_after last)
  where
    block : (l : List ℕ) → prefixed (42 ∷ []) l ≡ true → 2 + comment_len (drop 1 l) ≤ suc (length l)
    block [] e = no e
    block (y ∷ l) e = let k = comment-le l in omega arith

    go : (a b c : Bool) → (c ≡ true → 2 + comment_len (drop 1 xs) ≤ suc (length xs)) → (d e : Bool) →
        let t : Token = cond a (token (suc (length xs)) Gone) (cond (b && c) (token (2 + comment_len (drop 1 xs)) Gone) (cond d (token (suc (quote_len xs x)) Literal) (cond e (token (suc (pattern_len xs false)) Literal) (token 1 Kept)))) in
        (1 ≤ t.size) × (t.size ≤ suc (length xs))
    go true b c f d e = (omega arith, omega arith)
    go false true true f d e = (omega arith, f refl)
    go false true false f true e = (omega arith, omega (arith, quote-le xs x))
    go false true false f false true = (omega arith, omega (arith, pattern-le xs false))
    go false true false f false false = (omega arith, omega arith)
    go false false c f true e = (omega arith, omega (arith, quote-le xs x))
    go false false c f false true = (omega arith, omega (arith, pattern-le xs false))
    go false false c f false false = (omega arith, omega arith)

pub size-some : (last : ℕ) (l : List ℕ) → 0 < length l → 1 ≤ (token_at last l).size
unfolding token_at
size-some last [] h = absurd (omega arith)
size-some last (x ∷ xs) h = (size_of last x xs).0

pub size-le : (last : ℕ) (l : List ℕ) → (token_at last l).size ≤ length l
unfolding token_at
size-le last [] = omega arith
size-le last (x ∷ xs) = (size_of last x xs).1
