-- Runs of plain bytes: what a line leaves of them, and the digest after them. Assumes nothing.
use Prim.Native.Nat.{ℕ, zero, suc, ◌+◌, ◌-◌, ◌≤◌, ◌<◌}
use mathlib.Core.Path.{◌≡◌, refl, sym, ap, ◌∙◌}
use mathlib.Core.Bool.{Bool, true, false, cond, not, ◌&&◌, ◌||◌}
use mathlib.Core.List.{List, [], ◌∷◌, ◌++◌, append-nil}
use native.Mathlib.Omega.{arith}
use borrow.Author.Tests.{ne_eqb, leb-true, le-leb, lt-leb, ltb-true, ltb-false}
use lib.Dec.{leb, ltb, eqb}
use lib.ListN.{length, take, drop, get_or, length-append, length-drop}
use lib.Seq.{drop-drop, take_all, get_or-drop, append_snoc}
use Rattle.std.proofs.Common.{reverse, Option, Some}
use Rattle.std.proofs.lemmas.Grind.{reverse_onto}
use Rattle.std.proofs.lemmas.List.{reverse-reverse}
use Rattle.std.specs.List.{find}
use Rattle.std.specs.Option.{unwrap_or}
use Rattle.lines.specs.Lf.{part, all, prefixed}
use Rattle.lines.proofs.Tests.{no, and-true, or-false, and_left, and_right}
use Rattle.lines.specs.Inner.Out.{Wrote}
use Rattle.lines.proofs.LfLaws.{part-more}
use Rattle.lines.proofs.OutLaws.{wrote_then, wrote-length}
use Rattle.text.specs.White.{is_white}
use Rattle.text.specs.Trim.{to_of, end_white}
use Rattle.lexical.specs.declared.Kind.TheVariants.{Kept, Literal, Gone}
use Rattle.lexical.specs.declared.Tail.{Tail}
use Rattle.lexical.specs.Lex.{quote_len, pattern_len, comment_len, pattern_after, last_of, token, token_of, lex_go}
use Rattle.lexical.specs.Inner.Lex.{front, tail_of, pushed, grown}
use Rattle.lexical.specs.Inner.Plain.{is_plain, plain_len, low_last, low_tail}
use Rattle.lexical.proofs.EndLaws.{ends, ends_on, ends-none, cons-at}
use Rattle.lexical.proofs.TailLaws.{after-low, grown-tail, back-here, back_more, front-more, front-whole}
use Rattle.lexical.proofs.LexLaws.{LexAt, lex-room, StripInv}

-- ---- the test of a byte

-- a bound, and no byte of the list
pub none_of : (b : ℕ) → (b ≡ 10 → ⊥) → (b ≡ 34 → ⊥) → (b ≡ 39 → ⊥) → (b ≡ 47 → ⊥) → (b ≡ 96 → ⊥) → is_plain b ≡ leb b 122
none_of b n₁ n₂ n₃ n₄ n₅ = rw (ne_eqb b 10 n₁, ne_eqb b 34 n₂, ne_eqb b 39 n₃, ne_eqb b 47 n₄, ne_eqb b 96 n₅) (and-true (leb b 122))

module _ (b : ℕ) where
  pub plain-high : 97 ≤ b → ltb b 123 ≡ is_plain b
  plain-high h = go (ltb b 123) refl ∙ sym (none_of b (omega arith) (omega arith) (omega arith) (omega arith) (omega arith))
    where
      go : (t : Bool) → ltb b 123 ≡ t → t ≡ leb b 122
      go true e = let k = ltb-true b 123 e in sym (le-leb b 122 (omega arith))
      go false e = let k = ltb-false b 123 e in sym (lt-leb b 122 (omega arith))

  pub plain-blank : b ≡ 32 → true ≡ is_plain b
  plain-blank e = rw e

  pub plain-upper : b < 97 → 48 ≤ b → ltb b 96 ≡ is_plain b
  plain-upper l h = go (ltb b 96) refl
    where
      go : (t : Bool) → ltb b 96 ≡ t → t ≡ is_plain b
      go true e = let k = ltb-true b 96 e in sym (none_of b (omega arith) (omega arith) (omega arith) (omega arith) (omega arith) ∙ le-leb b 122 (omega arith))
      go false e = let k = ltb-false b 96 e in let q : b ≡ 96 = omega arith in rw q

  pub plain-mark : b < 48 → 40 ≤ b → ltb b 47 ≡ is_plain b
  plain-mark l h = go (ltb b 47) refl
    where
      go : (t : Bool) → ltb b 47 ≡ t → t ≡ is_plain b
      go true e = let k = ltb-true b 47 e in sym (none_of b (omega arith) (omega arith) (omega arith) (omega arith) (omega arith) ∙ le-leb b 122 (omega arith))
      go false e = let k = ltb-false b 47 e in let q : b ≡ 47 = omega arith in rw q

  pub plain-below : b < 40 → not (eqb b 10 || (eqb b 34 || eqb b 39)) ≡ is_plain b
  plain-below l = rw (le-leb b 122 (omega arith), ne_eqb b 47 (omega arith), ne_eqb b 96 (omega arith), or-false (eqb b 39))

  pub plain-low : is_plain b ≡ true → b < 123
  plain-low h = let k = leb-true b 122 (and_left (leb b 122) _ h) in omega arith

-- ---- how far plain bytes go

pub plain-le : (l : List ℕ) → plain_len l ≤ length l
unfolding plain_len
plain-le [] = omega arith
plain-le (x ∷ xs) = go (is_plain x) (plain-le xs)
  where
    go : (t : Bool) → plain_len xs ≤ length xs → cond t (suc (plain_len xs)) 0 ≤ suc (length xs)
    go true k = omega arith
    go false k = omega arith

-- the first ones
pub plain-take : (l : List ℕ) (n : ℕ) → n ≤ plain_len l → all is_plain (take n l) ≡ true
unfolding plain_len
plain-take l zero h = refl
plain-take [] (suc n) h = refl
plain-take (x ∷ xs) (suc n) h = go (is_plain x) (plain-take xs n) h
  where
    go : (t : Bool) → (n ≤ plain_len xs → all is_plain (take n xs) ≡ true) → suc n ≤ cond t (suc (plain_len xs)) 0 → t && all is_plain (take n xs) ≡ true
    go true f k = f (omega arith)
    go false f k = absurd (omega arith)

-- each of them
plain-nth : (l : List ℕ) (n : ℕ) → n < plain_len l → is_plain (get_or l n 0) ≡ true
unfolding plain_len
plain-nth [] n h = absurd (omega arith)
plain-nth (x ∷ xs) n h = go (is_plain x) refl (λ m. plain-nth xs m) n h
  where
    go : (t : Bool) → is_plain x ≡ t → ((m : ℕ) → m < plain_len xs → is_plain (get_or xs m 0) ≡ true) → (m : ℕ) → m < cond t (suc (plain_len xs)) 0 → is_plain (get_or (x ∷ xs) m 0) ≡ true
    go true e f zero k = e
    go true e f (suc m) k = f m (omega arith)
    go false e f m k = absurd (omega arith)

module _ (s : List ℕ) (j : ℕ) where
  pub plain_more : j < length s → is_plain (get_or s j 0) ≡ true → ends plain_len s j ≡ ends plain_len s (j + 1)
  unfolding plain_len
  plain_more h e = ends_on plain_len s j plain_len h (rw e)

  pub plain-stop : j < length s → is_plain (get_or s j 0) ≡ false → ends plain_len s j ≡ j
  unfolding plain_len
  plain-stop h e = rw (cons-at s j h, e) (omega arith)

  pub plain-none : length s ≤ j → ends plain_len s j ≡ j
  unfolding plain_len
  plain-none h = ends-none plain_len s j h refl

-- ---- what a line leaves

-- a plain byte is kept
kept : (last x : ℕ) (xs : List ℕ) → is_plain x ≡ true → token_of last x xs ≡ token 1 Kept
unfolding token_of
kept last x xs h = go (eqb x 10) (eqb x 34) (eqb x 39) (eqb x 47) (eqb x 96) (and_right (leb x 122) _ h)
  where
    go : (z a b c d : Bool) → not (z || (a || (b || (c || (d || false))))) ≡ true →
        cond (c && prefixed (47 ∷ []) xs) (token (suc (length xs)) Gone)
        (cond (c && prefixed (42 ∷ []) xs) (token (2 + comment_len (drop 1 xs)) Gone)
        (cond (a || (b || (d || false))) (token (suc (quote_len xs x)) Literal)
        (cond (c && pattern_after last) (token (suc (pattern_len xs false)) Literal) (token 1 Kept))))
        ≡ token 1 Kept
    go false false false false false e = refl
    go true a b c d e = no e
    go false true b c d e = no e
    go false false true c d e = no e
    go false false false true d e = no e
    go false false false false true e = no e

lex-run : (l out : List ℕ) → lex_go l 0 out ≡ lex_go (drop (plain_len l) l) 0 (out ++ take (plain_len l) l)
unfolding lex_go plain_len
lex-run [] out = sym (append-nil out)
lex-run (x ∷ xs) out = go (is_plain x) refl (lex-run xs (out ++ x ∷ []))
  where
    go : (t : Bool) → is_plain x ≡ t → lex_go xs 0 (out ++ x ∷ []) ≡ lex_go (drop (plain_len xs) xs) 0 ((out ++ x ∷ []) ++ take (plain_len xs) xs) →
        lex_go (x ∷ xs) 0 out ≡ lex_go (drop (cond t (suc (plain_len xs)) 0) (x ∷ xs)) 0 (out ++ take (cond t (suc (plain_len xs)) 0) (x ∷ xs))
    go true e f = rw (kept (last_of out) x xs e) (f ∙ ap (λ (m : List ℕ). lex_go (drop (plain_len xs) xs) 0 m) (append_snoc out x (take (plain_len xs) xs)))
    go false e f = ap (λ (m : List ℕ). lex_go (x ∷ xs) 0 m) (sym (append-nil out))

-- a loop over steps goes on after plain bytes
pub lex-plain : {s out : List ℕ} {i : ℕ} {t : Tail} → LexAt s i t out → (j : ℕ) → j ≡ ends plain_len s i → (u : Tail) → u ≡ grown t (part i j s) → LexAt s j u (out ++ part i j s)
lex-plain {s} {out} {i} {t} h j q u e =
    let n : j - i ≡ plain_len (drop i s) = omega arith in
    record {
      i≤ = omega (arith, plain-le (drop i s), length-drop i s, h.i≤);
      tail = e ∙ ap (λ (v : Tail). grown v (part i j s)) h.tail ∙ grown-tail (part i j s) out;
      so_far =
          rw (n, q) (ap (λ (m : List ℕ). lex_go m 0 (out ++ take (plain_len (drop i s)) (drop i s))) (sym (drop-drop (plain_len (drop i s)) i s)) ∙ sym (lex-run (drop i s) out) ∙ h.so_far);
    }

-- the loop of `strip_lexical`
module _ {s d₀ d : List ℕ} {o p i : ℕ} {t : Tail} (h : StripInv s d₀ o d p i t) (j : ℕ) (q : j ≡ ends plain_len s i) where
  pub strip-to : j ≤ length s
  strip-to = omega (arith, plain-le (drop i s), length-drop i s, h.lex.i≤)

  pub strip-room : p + length (part i j s) ≤ length d
  strip-room =
      omega (
        arith,
        lex-room (lex-plain h.lex j q (grown t (part i j s)) refl),
        length-append h.done (part i j s),
        wrote-length h.wrote,
        h.wrote.place,
        h.room,
      )

  pub strip-plain : (v : Tail) (d' : List ℕ) (p' : ℕ) → v ≡ grown t (part i j s) → Wrote d p (part i j s) d' p' → StripInv s d₀ o d' p' j v
  strip-plain v d' p' e w = record { room = h.room; done = h.done ++ part i j s; lex = lex-plain h.lex j q v e; wrote = wrote_then h.wrote w }

-- ---- the digest

grown-append : (t : Tail) (a b : List ℕ) → grown t (a ++ b) ≡ grown (grown t a) b
unfolding grown
grown-append t [] b = refl
grown-append t (x ∷ a) b = grown-append (pushed t x) a b

-- the last character after plain bytes
pub last-run : (t : Tail) (l : List ℕ) → all is_plain l ≡ true → (grown t l).last ≡ low_last t.last l
unfolding grown pushed low_last
last-run t [] h = refl
last-run t (b ∷ bs) h =
    last-run (pushed t b) bs (and_right (is_plain b) _ h)
    ∙ ap (λ (n : ℕ). low_last n bs) (after-low b (omega (arith, plain-low b (and_left (is_plain b) _ h))) t)

-- a byte more at the end
pub low-more : (last : ℕ) (l : List ℕ) (b : ℕ) → low_last last (l ++ b ∷ []) ≡ cond (is_white b) (low_last last l) b
unfolding low_last
low-more last [] b = refl
low-more last (x ∷ l) b = low-more (cond (is_white x) last x) l b

two-more : (t : Tail) (l : List ℕ) (a b : ℕ) → all is_plain l ≡ true → a < 128 → b < 128 → grown t (l ++ a ∷ b ∷ []) ≡ record {
  byte = b;
  byte2 = a;
  last = cond (is_white b) (cond (is_white a) (low_last t.last l) a) b;
  last2 = cond (is_white a) (low_last t.last l) a;
  last3 = low_last t.last l;
}
unfolding grown pushed
two-more t l a b h p q = grown-append t l (a ∷ b ∷ []) ∙ rw (after-low b q (pushed (grown t l) a), after-low a p (grown t l), last-run t l h)

-- ---- from the end of the bytes

-- a byte that is no white space
abbrev is_dark : ℕ → Bool
is_dark b = not (is_white b)

low-found : (last : ℕ) (r : List ℕ) → low_last last (reverse r) ≡ unwrap_or (find is_dark r) last
unfolding low_last
low-found last [] = refl
low-found last (x ∷ r) = ap (low_last last) (reverse_onto r x []) ∙ low-more last (reverse r) x ∙ go (is_white x) (low-found last r)
  where
    go : (t : Bool) → low_last last (reverse r) ≡ unwrap_or (find is_dark r) last → cond t (low_last last (reverse r)) x ≡ unwrap_or (cond (not t) (Some x) (find is_dark r)) last
    go true h = h
    go false h = refl

-- the last of them is found first from the end
pub low-back : (last : ℕ) (t : List ℕ) (o : Option ℕ) → o ≡ find is_dark (reverse t) → unwrap_or o last ≡ low_last last t
low-back last t o e = rw e (sym (low-found last (reverse t)) ∙ ap (low_last last) (reverse-reverse t))

module _ (s : List ℕ) (i j : ℕ) (q : j ≡ ends plain_len s i) where
  pub plain_in : (i ≡ j → ⊥) → i < j × (j ≤ length s)
  plain_in n = let p = plain-le (drop i s) in let d = length-drop i s in (omega arith, omega arith)

  low-at : (k : ℕ) → i ≤ k → k < j → get_or s k 0 < 128
  low-at k l h =
      let e : i + (k - i) ≡ k = omega arith in
      let p = plain-low (get_or (drop i s) (k - i) 0) (plain-nth (drop i s) (k - i) (omega arith)) in
      let g = get_or-drop i s (k - i) 0 ∙ ap (λ (m : ℕ). get_or s m 0) e in
      omega arith

  pub tail_none : (t : Tail) → i ≡ j → t ≡ grown t (part i j s)
  unfolding grown
  tail_none t e = let z : j - i ≡ 0 = omega arith in rw z

  module _ (t : Tail) (n : i ≡ j → ⊥) where
    one : part i j s ≡ part i (j - 1) s ++ get_or s (j - 1) 0 ∷ []
    one =
        let p = plain_in n in
        let e : j ≡ j - 1 + 1 = omega arith in
        ap (λ (m : ℕ). part i m s) e ∙ part-more s i (j - 1) (omega arith) (omega arith)

    pub tail-one : j - i ≡ 1 → pushed t (get_or s (j - 1) 0) ≡ grown t (part i j s)
    unfolding grown
    tail-one e = let z : j - 1 - i ≡ 0 = omega arith in rw (one, z)

    module _ (m : j - i ≡ 1 → ⊥) where
      two : part i j s ≡ part i (j - 2) s ++ get_or s (j - 2) 0 ∷ get_or s (j - 1) 0 ∷ []
      two =
          let p = plain_in n in
          let e : j - 1 ≡ j - 2 + 1 = omega arith in
          one ∙ ap (λ (l : List ℕ). l ++ get_or s (j - 1) 0 ∷ []) (ap (λ (k : ℕ). part i k s) e ∙ part-more s i (j - 2) (omega arith) (omega arith))
          ∙ append_snoc (part i (j - 2) s) (get_or s (j - 2) 0) (get_or s (j - 1) 0 ∷ [])

      pub tail-run : {l₁ l₂ l₃ : ℕ} → l₃ ≡ low_last t.last (part i (j - 2) s) → l₂ ≡ cond (is_white (get_or s (j - 2) 0)) l₃ (get_or s (j - 2) 0) →
          l₁ ≡ cond (is_white (get_or s (j - 1) 0)) l₂ (get_or s (j - 1) 0) →
          record { byte = get_or s (j - 1) 0; byte2 = get_or s (j - 2) 0; last = l₁; last2 = l₂; last3 = l₃ } ≡ grown t (part i j s)
      tail-run e₃ e₂ e₁ =
          let p = plain_in n in
          sym (ap (grown t) two
          ∙ two-more t (part i (j - 2) s) (get_or s (j - 2) 0) (get_or s (j - 1) 0) (plain-take (drop i s) (j - 2 - i) (omega arith)) (low-at (j - 2) (omega arith) (omega arith)) (low-at (j - 1) (omega arith) (omega arith))
          ∙ rw (e₁, e₂, e₃))

-- ---- the digest, each byte taken as a character

-- the first ones of bytes that are all plain
all-front : (n : ℕ) (l : List ℕ) → all is_plain l ≡ true → all is_plain (take n l) ≡ true
all-front zero l h = refl
all-front (suc n) [] h = refl
all-front (suc n) (x ∷ xs) h = rw (and_left (is_plain x) _ h) (all-front n xs (and_right (is_plain x) _ h))

-- the last character of plain bytes
last-plain : (l : List ℕ) → all is_plain l ≡ true → low_last 256 l ≡ last_of l
unfolding tail_of last_of to_of end_white
last-plain l h = sym (last-run (tail_of []) l h) ∙ ap (λ (t : Tail). t.last) (grown-tail l [])

-- of plain bytes it is the digest
pub low-plain : (l : List ℕ) → all is_plain l ≡ true → low_tail l ≡ grown (tail_of []) l
unfolding low_tail tail_of
low-plain l h = go ∙ sym (grown-tail l [])
  where
    go : low_tail l ≡ tail_of l
    go = rw (last-plain l h, last-plain (front 1 l) (all-front (length l - 1) l h), last-plain (front 2 l) (all-front (length l - 2) l h))

-- the digest with a byte more
abbrev low_pushed : ℕ → Tail → Tail
low_pushed b t = record { byte = b; byte2 = t.byte; last = cond (is_white b) t.last b; last2 = t.last; last3 = t.last2 }

low-pushed : (l : List ℕ) (b : ℕ) → low_tail (l ++ b ∷ []) ≡ low_pushed b (low_tail l)
unfolding low_tail
low-pushed l b = rw (← back-here l b, ← back_more l b 1 (omega arith), low-more 256 l b, front-more l b 1, front-more l b 0, front-whole l b)

-- two bytes more
low-two : (l : List ℕ) (a b : ℕ) → low_tail (l ++ a ∷ b ∷ []) ≡ record {
  byte = b;
  byte2 = a;
  last = cond (is_white b) (cond (is_white a) (low_last 256 l) a) b;
  last2 = cond (is_white a) (low_last 256 l) a;
  last3 = low_last 256 l;
}
unfolding low_tail
low-two l a b =
    ap low_tail (sym (append_snoc l a (b ∷ []))) ∙ low-pushed (l ++ a ∷ []) b
    ∙ ap (low_pushed b) (low-pushed l a)

-- the ways out of `low_tail`
pub low-empty : (s : List ℕ) → length s ≡ 0 → tail_of [] ≡ low_tail s
unfolding tail_of last_of to_of end_white low_tail low_last
low-empty [] h = refl
low-empty (x ∷ xs) h = absurd (omega arith)

pub low-single : (s : List ℕ) {r : ℕ} → length s ≡ 1 → r ≡ cond (is_white (get_or s (length s - 1) 0)) 256 (get_or s (length s - 1) 0) →
    record { byte = get_or s (length s - 1) 0; byte2 = 0; last = r; last2 = 256; last3 = 256 } ≡ low_tail s
unfolding low_tail low_last
low-single [] h e = absurd (omega arith)
low-single (x ∷ []) h e = rw e
low-single (x ∷ y ∷ s) h e = absurd (omega arith)

pub low-ends : (s : List ℕ) {l₁ l₂ l₃ : ℕ} → 2 ≤ length s → l₃ ≡ low_last 256 (part 0 (length s - 2) s) →
    l₂ ≡ cond (is_white (get_or s (length s - 2) 0)) l₃ (get_or s (length s - 2) 0) → l₁ ≡ cond (is_white (get_or s (length s - 1) 0)) l₂ (get_or s (length s - 1) 0) →
    record { byte = get_or s (length s - 1) 0; byte2 = get_or s (length s - 2) 0; last = l₁; last2 = l₂; last3 = l₃ } ≡ low_tail s
low-ends s h e₃ e₂ e₁ =
    let n : ℕ = length s in
    let p : n ≡ n - 1 + 1 = omega arith in
    let q : n - 1 ≡ n - 2 + 1 = omega arith in
    let one : part 0 (n - 1) s ≡ part 0 (n - 2) s ++ get_or s (n - 2) 0 ∷ [] = ap (λ (k : ℕ). part 0 k s) q ∙ part-more s 0 (n - 2) (omega arith) (omega arith) in
    let two : s ≡ part 0 (n - 1) s ++ get_or s (n - 1) 0 ∷ [] = sym (take_all (n - 0) s (omega arith)) ∙ ap (λ (k : ℕ). part 0 k s) p ∙ part-more s 0 (n - 1) (omega arith) (omega arith) in
    let all_of : s ≡ part 0 (n - 2) s ++ get_or s (n - 2) 0 ∷ get_or s (n - 1) 0 ∷ [] =
    two ∙ ap (λ (l : List ℕ). l ++ get_or s (n - 1) 0 ∷ []) one ∙ append_snoc (part 0 (n - 2) s) (get_or s (n - 2) 0) (get_or s (n - 1) 0 ∷ []) in
    rw (e₁, e₂, e₃) (sym (ap low_tail all_of ∙ low-two (part 0 (n - 2) s) (get_or s (n - 2) 0) (get_or s (n - 1) 0)))
