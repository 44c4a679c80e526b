-- The words of a cleaned text, one after the other by their places. Assumes nothing.
use Prim.Native.Nat.{ℕ, zero, suc, ◌+◌, ◌-◌, ◌≤◌, ◌<◌}
use mathlib.Core.Path.{◌≡◌, refl, sym, ap, ◌∙◌, subst}
use mathlib.Core.Bool.{Bool, true, false, cond, not, ◌&&◌, ◌||◌}
use mathlib.Core.List.{List, [], ◌∷◌, ◌++◌}
use native.Mathlib.Omega.{arith}
use borrow.Author.Tests.{eq-eqb, ne_eqb, eqb-true, eqb-false, leb-true, leb-false}
use lib.Dec.{eqb, leb}
use lib.ListN.{length, take, drop, get_or, length-take, length-drop, drop_of_length-le}
use lib.Seq.{drop-drop, take-add}
use Rattle.std.specs.List.{list_all}
use Rattle.std.specs.Char.{is_ascii_digit}
use Rattle.lines.specs.Lf.{within, part, prefixed, is_empty}
use Rattle.lines.proofs.LfLaws.{part_none}
use Rattle.text.specs.declared.Span.{Span}
use Rattle.text.proofs.Rows.{seq_len-fits}
use Rattle.std.specs.declared.option.Option.{Option}
use Rattle.std.specs.declared.option.Option.TheVariants.{Some, None}
use Rattle.lexical.proofs.ByteLaws.{first-is}
use Rattle.lexical.specs.Idents.{char_len, chars_go, name_low, digit_char, digits, no_word, flush_word, joins, words_go, words_in}
use Rattle.lexical.specs.Inner.Idents.{word_from, next_word, words_by}

-- ---- characters

pub char-some : (l : List ℕ) → 1 ≤ char_len l
unfolding char_len
char-some l = omega arith

pub char-le : (l : List ℕ) → 0 < length l → char_len l ≤ length l
unfolding char_len
char-le l h = omega (arith, seq_len-fits l)

chars-skip : (k : ℕ) (l : List ℕ) → chars_go l k ≡ chars_go (drop k l) 0
unfolding chars_go
chars-skip zero l = refl
chars-skip (suc k) [] = refl
chars-skip (suc k) (x ∷ xs) = chars-skip k xs

chars-first : (l : List ℕ) → 0 < length l → chars_go l 0 ≡ take (char_len l) l ∷ chars_go (drop (char_len l) l) 0
unfolding chars_go
chars-first [] h = absurd (omega arith)
chars-first (x ∷ xs) h = ap (λ (cs : List (List ℕ)). take (char_len (x ∷ xs)) (x ∷ xs) ∷ cs) (chars-skip (char_len (x ∷ xs) - 1) xs ∙ go (char_len (x ∷ xs)) (char-some (x ∷ xs)))
  where
    go : (n : ℕ) → 1 ≤ n → chars_go (drop (n - 1) xs) 0 ≡ chars_go (drop n (x ∷ xs)) 0
    go zero h = absurd (omega arith)
    go (suc n) h = let q : suc n - 1 ≡ n = omega arith in rw q

module _ (t : List ℕ) (j e : ℕ) (h : j < length t) (q : e ≡ j + char_len (drop j t)) where
  d : 0 < length (drop j t)
  d = omega (arith, length-drop j t)

  -- the character at the place j ends at e
  pub char-on : j < e
  char-on = omega (arith, char-some (drop j t))

  pub char-end : e ≤ length t
  char-end = omega (arith, char-le (drop j t) d, length-drop j t)

  pub chars-at : chars_go (drop j t) 0 ≡ part j e t ∷ chars_go (drop e t) 0
  chars-at =
      let n : char_len (drop j t) ≡ e - j = omega arith in
      chars-first (drop j t) d
      ∙ ap (λ (cs : List (List ℕ)). take (char_len (drop j t)) (drop j t) ∷ cs) (ap (λ (l : List ℕ). chars_go l 0) (drop-drop (char_len (drop j t)) j t ∙ ap (λ (m : ℕ). drop m t) (sym q)))
      ∙ ap (λ (m : ℕ). take m (drop j t) ∷ chars_go (drop e t) 0) n

chars-end : (t : List ℕ) (j : ℕ) → length t ≤ j → chars_go (drop j t) 0 ≡ []
unfolding chars_go
chars-end t j h = rw (drop_of_length-le t h)

-- ---- the word so far

-- it stands from a up to j
pub record Spot (t : List ℕ) (a j : ℕ) : Type 0 where
  pub a≤j : a ≤ j
  pub size : length (part a j t) ≡ j - a

pub spot-none : (t : List ℕ) (j : ℕ) → Spot t j j
spot-none t j = record { a≤j = omega arith; size = simp (length-take, length-drop) (omega arith) }

spot-more : {t : List ℕ} {a j : ℕ} → Spot t a j → (e : ℕ) → j ≤ e → e ≤ length t → Spot t a e
spot-more {t} {a} {j} p e h k = let l = p.a≤j in record { a≤j = omega arith; size = simp (length-take, length-drop) (omega arith) }

part_join : (t : List ℕ) (a j e : ℕ) → a ≤ j → j ≤ e → part a j t ++ part j e t ≡ part a e t
part_join t a j e h k =
    let p : a + (j - a) ≡ j = omega arith in
    let q : j - a + (e - j) ≡ e - a = omega arith in
    let r : drop (j - a) (drop a t) ≡ drop j t = drop-drop (j - a) a t ∙ ap (λ (n : ℕ). drop n t) p in
    sym (ap (λ (n : ℕ). take n (drop a t)) (sym q) ∙ take-add (j - a) (e - j) (drop a t) ∙ ap (λ (l : List ℕ). take (j - a) (drop a t) ++ take (e - j) l) r)

empty-size : (l : List ℕ) → is_empty l ≡ eqb (length l) 0
empty-size [] = refl
empty-size (x ∷ xs) = sym (ne_eqb (suc (length xs)) 0 (omega arith))

module _ {t : List ℕ} {a j : ℕ} (p : Spot t a j) where
  spot-empty : is_empty (part a j t) ≡ eqb a j
  spot-empty = empty-size (part a j t) ∙ ap (λ (n : ℕ). eqb n 0) p.size ∙ go (eqb a j) refl
    where
      go : (b : Bool) → eqb a j ≡ b → eqb (j - a) 0 ≡ b
      go true e = let k = eqb-true a j e in eq-eqb (j - a) 0 (omega arith)
      go false e = let k = eqb-false a j e in let l = p.a≤j in ne_eqb (j - a) 0 (omega arith)

  spot-from : j - length (part a j t) ≡ a
  spot-from = let l = p.a≤j in let s = p.size in omega arith

-- one character, or the end: the first word, and all words
module _ {t : List ℕ} {a j : ℕ} (p : Spot t a j) where
  from_end : length t ≤ j → word_from (chars_go (drop j t) 0) j (part a j t) ≡ cond (no_word (part a j t)) None (Some (record { from = a; to = j }))
  unfolding word_from
  from_end h = rw (chars-end t j h, spot-from p)

  words-end : length t ≤ j → words_go (chars_go (drop j t) 0) (part a j t) ≡ flush_word (part a j t)
  unfolding words_go
  words-end h = rw (chars-end t j h)

  module _ (e : ℕ) (h : j < length t) (q : e ≡ j + char_len (drop j t)) where
    after : j + length (part j e t) ≡ e
    after = let k = char-end t j e h q in let m = char-on t j e h q in simp (length-take, length-drop) (omega arith)

    join : part a j t ++ part j e t ≡ part a e t
    join = let m = char-on t j e h q in part_join t a j e p.a≤j (omega arith)

    from_at : word_from (chars_go (drop j t) 0) j (part a j t) ≡ cond (joins (part j e t) (eqb a j)) (word_from (chars_go (drop e t) 0) e (part a e t)) (cond (no_word (part a j t)) (word_from (chars_go (drop e t) 0) e (part e e t)) (Some (record { from = a; to = j })))
    unfolding word_from
    from_at = rw (chars-at t j e h q, after, join, spot-empty p, spot-from p, part_none t e)

    words-at : words_go (chars_go (drop j t) 0) (part a j t) ≡ cond (joins (part j e t) (eqb a j)) (words_go (chars_go (drop e t) 0) (part a e t)) (flush_word (part a j t) ++ words_go (chars_go (drop e t) 0) (part e e t))
    unfolding words_go
    words-at = rw (chars-at t j e h q, join, spot-empty p, part_none t e)

-- ---- the loop of `next_word`

pub record WordInv (t : List ℕ) (i a j : ℕ) : Type 0 where
  pub spot : Spot t a j
  pub so_far : word_from (chars_go (drop j t) 0) j (part a j t) ≡ next_word t i

pub word-start : (t : List ℕ) (i : ℕ) → WordInv t i i i
unfolding next_word
word-start t i = record { spot = spot-none t i; so_far = ap (word_from (chars_go (drop i t) 0) i) (part_none t i) }

module _ {t : List ℕ} {i a j : ℕ} (w : WordInv t i a j) where
  module _ (e : ℕ) (h : j < length t) (q : e ≡ j + char_len (drop j t)) where
    pub word_more : joins (part j e t) (eqb a j) ≡ true → WordInv t i a e
    word_more b =
        let m = char-on t j e h q in
        record { spot = spot-more w.spot e (omega arith) (char-end t j e h q); so_far = sym (from_at w.spot e h q ∙ rw b) ∙ w.so_far }

    pub word-skip : joins (part j e t) (eqb a j) ≡ false → no_word (part a j t) ≡ true → WordInv t i e e
    word-skip b n = record { spot = spot-none t e; so_far = sym (from_at w.spot e h q ∙ rw (b, n)) ∙ w.so_far }

    pub word-here : joins (part j e t) (eqb a j) ≡ false → no_word (part a j t) ≡ false → Some (record { from = a; to = j }) ≡ next_word t i
    word-here b n = sym (from_at w.spot e h q ∙ rw (b, n)) ∙ w.so_far

  pub word-last : length t ≤ j → no_word (part a j t) ≡ false → Some (record { from = a; to = j }) ≡ next_word t i
  word-last h n = sym (from_end w.spot h ∙ rw n) ∙ w.so_far

  pub word_none : length t ≤ j → no_word (part a j t) ≡ true → None ≡ next_word t i
  word_none h n = sym (from_end w.spot h ∙ rw n) ∙ w.so_far

-- ---- the words by their places

-- what holds of the first word, character by character: at the end, and where a character goes on with the word so far or does not
module _ (t : List ℕ) (P : ℕ → ℕ → Option Span → Type 0)
    (ends : (a j : ℕ) → Spot t a j → length t ≤ j → (b : Bool) → no_word (part a j t) ≡ b → P a j (cond b None (Some (record { from = a; to = j }))))
    (more : (a j e : ℕ) → Spot t a j → j < length t → e ≡ j + char_len (drop j t) → joins (part j e t) (eqb a j) ≡ true → (r : Option Span) → P a e r → P a j r)
    (skip : (a j e : ℕ) → Spot t a j → j < length t → e ≡ j + char_len (drop j t) → joins (part j e t) (eqb a j) ≡ false → no_word (part a j t) ≡ true → (r : Option Span) → P e e r → P a j r)
    (here : (a j e : ℕ) → Spot t a j → j < length t → e ≡ j + char_len (drop j t) → joins (part j e t) (eqb a j) ≡ false → no_word (part a j t) ≡ false → P a j (Some (record { from = a; to = j }))) where
  first-go : (m a j : ℕ) → length t - j ≤ m → Spot t a j → P a j (word_from (chars_go (drop j t) 0) j (part a j t))
  first-go zero a j f p = rw (from_end p (omega arith)) (ends a j p (omega arith) (no_word (part a j t)) refl)
  first-go (suc m) a j f p = go (leb (length t) j) refl (λ a e f p. first-go m a e f p)
    where
      go : (b : Bool) → leb (length t) j ≡ b → ((a e : ℕ) → length t - e ≤ m → Spot t a e → P a e (word_from (chars_go (drop e t) 0) e (part a e t))) → P a j (word_from (chars_go (drop j t) 0) j (part a j t))
      go true b ih = let h = leb-true (length t) j b in rw (from_end p h) (ends a j p h (no_word (part a j t)) refl)
      go false b ih = rw (from_at p e h refl) (step (joins (part j e t) (eqb a j)) refl (no_word (part a j t)) refl)
        where
          h : j < length t
          h = leb-false (length t) j b

          e : ℕ
          e = j + char_len (drop j t)

          on : j < e
          on = char-on t j e h refl

          step : (u : Bool) → joins (part j e t) (eqb a j) ≡ u → (v : Bool) → no_word (part a j t) ≡ v →
              P a j (cond u (word_from (chars_go (drop e t) 0) e (part a e t)) (cond v (word_from (chars_go (drop e t) 0) e (part e e t)) (Some (record { from = a; to = j }))))
          step true x v y = more a j e p h refl x _ (ih a e (omega (arith, on)) (spot-more p e (omega (arith, on)) (char-end t j e h refl)))
          step false x true y = skip a j e p h refl x y _ (ih e e (omega (arith, on)) (spot-none t e))
          step false x false y = here a j e p h refl x y

  by_first : (i : ℕ) → P i i (next_word t i)
  unfolding next_word
  by_first i = rw (← part_none t i) (first-go (length t) i i (omega arith) (spot-none t i))

-- a character that does not go on with a word begins none
joins-less : (c : List ℕ) → joins c false ≡ false → joins c true ≡ false
joins-less c h = go (name_low c) (not (digit_char c)) h
  where
    go : (n g : Bool) → n && (g || true) ≡ false → n && (g || false) ≡ false
    go true true h = h
    go true false h = refl
    go false g h = refl

word_some : (l : List ℕ) → no_word l ≡ false → is_empty l ≡ false
word_some [] h = h
word_some (x ∷ l) h = refl

spot-some : {t : List ℕ} {a j : ℕ} → Spot t a j → no_word (part a j t) ≡ false → a < j
spot-some {t} {a} {j} p n = let k = eqb-false a j (sym (spot-empty p) ∙ word_some (part a j t) n) in let l = p.a≤j in omega arith

module _ (t : List ℕ) where
  -- the words from a word so far on are those from the first one on
  abbrev WordsBy : ℕ → ℕ → Option Span → Type 0
  WordsBy a j r = words_go (chars_go (drop j t) 0) (part a j t) ≡ words_by t r

  words-ends : (a j : ℕ) → Spot t a j → length t ≤ j → (b : Bool) → no_word (part a j t) ≡ b → WordsBy a j (cond b None (Some (record { from = a; to = j })))
  unfolding words_by flush_word words_go prefixed
  words-ends a j p h true n = words-end p h ∙ rw n
  words-ends a j p h false n = words-end p h ∙ rw (n, chars-end t j h)

  words-here : (a j e : ℕ) → Spot t a j → j < length t → e ≡ j + char_len (drop j t) → joins (part j e t) (eqb a j) ≡ false → no_word (part a j t) ≡ false → WordsBy a j (Some (record { from = a; to = j }))
  unfolding words_by flush_word prefixed
  words-here a j e p h q b n =
      let k = spot-some p n in
      let y : joins (part j e t) true ≡ false = joins-less (part j e t) (rw (ne_eqb a j (omega arith)) at b) in
      let z : words_go (chars_go (drop j t) 0) (part j j t) ≡ words_go (chars_go (drop e t) 0) (part e e t) = words-at (spot-none t j) e h q ∙ rw (eq-eqb j j refl, y, part_none t j) in
      words-at p e h q ∙ rw (b, n) (ap (λ (ws : List (List ℕ)). part a j t ∷ ws) (sym z ∙ ap (words_go (chars_go (drop j t) 0)) (part_none t j)))

  -- the words from the place i on are the next one and those after it
  pub words-next : (i : ℕ) → words_go (chars_go (drop i t) 0) [] ≡ words_by t (next_word t i)
  unfolding flush_word
  words-next i =
      rw (← part_none t i)
      (by_first t WordsBy words-ends
      (λ a j e p h q b r w. words-at p e h q ∙ rw b w)
      (λ a j e p h q b n r w. words-at p e h q ∙ rw (b, n) w)
      words-here i)

  pub words-first : words_in t ≡ words_by t (next_word t 0)
  unfolding words_in
  words-first = words-next 0

  -- the next word is not is_empty, and stands in the text, from i on
  abbrev pub Placed : ℕ → Option Span → Type 0
  Placed i (Some w) = (i ≤ w.from) × ((w.from < w.to) × (w.to ≤ length t))
  Placed i None = Unit {0}

  placed-later : (a e : ℕ) → a ≤ e → (r : Option Span) → Placed e r → Placed a r
  placed-later a e h (Some w) p = let l = p.0 in (omega arith, p.1)
  placed-later a e h None p = tt

  placed-ends : (a j : ℕ) → Spot t a j → length t ≤ j → (b : Bool) → no_word (part a j t) ≡ b → Placed a (cond b None (Some (record { from = a; to = j })))
  placed-ends a j p h true n = tt
  placed-ends a j p h false n =
      let k = spot-some p n in
      let s : length (part a j t) ≡ j - a = p.size in
      let l : length (part a j t) ≤ length t - a = simp (length-take, length-drop) (omega arith) in
      (omega arith, (k, omega arith))

  pub word-placed : (i : ℕ) → Placed i (next_word t i)
  word-placed i =
      by_first t (λ a j r. Placed a r) placed-ends
      (λ a j e p h q b r w. w)
      (λ a j e p h q b n r w. placed-later a e (let m = char-on t j e h q in let l = p.a≤j in omega arith) r w)
      (λ a j e p h q b n. (omega arith, (spot-some p n, omega arith)))
      i

  -- the same for a next word that is known
  module _ (i : ℕ) where
    pub next-some : (w : Span) → next_word t i ≡ Some w → words_go (chars_go (drop i t) 0) [] ≡ part w.from w.to t ∷ words_go (chars_go (drop w.to t) 0) []
    unfolding words_by
    next-some w e = words-next i ∙ ap (words_by t) e

    pub next-none : next_word t i ≡ None → words_go (chars_go (drop i t) 0) [] ≡ []
    unfolding words_by
    next-none e = words-next i ∙ ap (words_by t) e

    pub next-placed : (w : Span) → next_word t i ≡ Some w → (i ≤ w.from) × ((w.from < w.to) × (w.to ≤ length t))
    next-placed w e = subst (Placed i) e (word-placed i)

-- ---- the loop of `is_no_word`

pub bare-empty : (w : List ℕ) → length w ≡ 0 → true ≡ no_word w
bare-empty [] h = refl
bare-empty (x ∷ w) h = absurd (omega arith)

-- a word so far is its first byte and what follows
bare-first : (w : List ℕ) → (length w ≡ 0 → ⊥) → no_word w ≡ eqb (get_or w 0 0) 114 && digits (drop 1 w)
bare-first [] h = absurd (h refl)
bare-first (x ∷ w) h = rw (first-is 114 (x ∷ w) (omega arith))

module _ (w : List ℕ) (h : length w ≡ 0 → ⊥) where
  pub bare-other : (get_or w 0 0 ≡ 114 → ⊥) → false ≡ no_word w
  bare-other n = sym (bare-first w h ∙ rw (ne_eqb (get_or w 0 0) 114 n))

  pub bare-start : get_or w 0 0 ≡ 114 → digits (drop 1 w) ≡ no_word w
  bare-start e = sym (bare-first w h ∙ rw (eq-eqb (get_or w 0 0) 114 e))

pub digits-all : (w : List ℕ) → list_all is_ascii_digit w ≡ digits w
digits-all [] = refl
digits-all (x ∷ w) = ap (λ (b : Bool). within 48 57 x && b) (digits-all w)
