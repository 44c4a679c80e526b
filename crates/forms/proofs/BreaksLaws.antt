-- Laws of what a line writes, and of the words of a cleaned value. Assumes nothing.
use Prim.Native.Nat.{ℕ, ◌+◌, ◌≤◌, ◌<◌}
use mathlib.Core.Path.{◌≡◌, refl, sym, ap, ◌∙◌}
use mathlib.Core.Bool.{Bool, true, false, ◌&&◌, ◌||◌, or_assoc}
use mathlib.Core.List.{List, [], ◌∷◌, ◌++◌}
use native.Mathlib.Omega.{arith}
use borrow.Author.Tests.{lt-ltb, le-ltb}
use lib.Dec.{eqb}
use lib.ListN.{length, drop, get_or, drop_of_length-le}
use Rattle.std.specs.List.{list_any}
use Rattle.lines.specs.Lf.{part, prefixed, holds}
use Rattle.lines.proofs.Tests.{no, or-true, eqb-sym}
use Rattle.lines.proofs.LfLaws.{rest_of}
use Rattle.lexical.specs.Lex.{strip_lexical}
use Rattle.lexical.specs.Idents.{words_in}
use Rattle.lexical.proofs.EndLaws.{cons-at}
use Rattle.parse.specs.Parse.{parse_of}
use Rattle.parse.specs.declared.Store.{Store}
use Rattle.parse.specs.declared.Line.{Line}
use Rattle.parse.specs.declared.Line.TheVariants as line
use Rattle.words.specs.Runs.{reads_of}
use Rattle.forms.specs.Breaks.{writes, writes_any, breaks_by, breaks_with, breaks}
use Rattle.forms.specs.Inner.Breaks.{writes_here}

-- ---- a name, and what stands round it

-- whether a and then b stand in front: a does, and b after it
pub front-both : (a b l : List ℕ) → prefixed (a ++ b) l ≡ prefixed a l && prefixed b (drop (length a) l)
unfolding prefixed
front-both [] b l = refl
front-both (x ∷ a) b [] = refl
front-both (x ∷ a) b (y ∷ l) = go (eqb x y) (front-both a b l)
  where
    go : (t : Bool) → prefixed (a ++ b) l ≡ prefixed a l && prefixed b (drop (length a) l) → t && prefixed (a ++ b) l ≡ (t && prefixed a l) && prefixed b (drop (length a) l)
    go true h = h
    go false h = refl

-- the same where a is known to stand there or not, and r is what follows its place
module _ (a b l : List ℕ) where
  pub front-other : prefixed a l ≡ false → prefixed (a ++ b) l ≡ false
  front-other h = front-both a b l ∙ rw h

  pub front-then : prefixed a l ≡ true → (r : List ℕ) → r ≡ part (length a) (length l) l → prefixed (a ++ b) l ≡ prefixed b r
  front-then h r e = front-both a b l ∙ rw (h, e, rest_of l (length a))

-- what stands in front: what is stored or counted up, or else `++` and the name
module _ (n l : List ℕ) where
  here-is : writes_here n l ≡ (prefixed (n ++ 32 ∷ 61 ∷ []) l || prefixed (n ++ 43 ∷ 43 ∷ []) l) || prefixed ((43 ∷ 43 ∷ []) ++ n) l
  unfolding writes_here
  here-is = sym (or_assoc (prefixed (n ++ 32 ∷ 61 ∷ []) l) (prefixed (n ++ 43 ∷ 43 ∷ []) l) (prefixed (43 ∷ 43 ∷ n) l))

  pub here-store : prefixed (n ++ 32 ∷ 61 ∷ []) l || prefixed (n ++ 43 ∷ 43 ∷ []) l ≡ true → writes_here n l ≡ true
  here-store h = here-is ∙ rw h

  pub here-rest : prefixed (n ++ 32 ∷ 61 ∷ []) l || prefixed (n ++ 43 ∷ 43 ∷ []) l ≡ false → writes_here n l ≡ prefixed ((43 ∷ 43 ∷ []) ++ n) l
  here-rest h = here-is ∙ rw h

-- ---- the loop of `writes`

-- three tests of two parts, all first parts before all second ones
mix : (a b c d e f : Bool) → (a || d) || ((b || e) || (c || f)) ≡ (a || (b || c)) || (d || (e || f))
mix true b c d e f = refl
mix false true c d e f = or-true d
mix false false true d e f = ap (λ (t : Bool). d || t) (or-true e) ∙ or-true d
mix false false false d e f = refl

writes-cons : (n : List ℕ) (x : ℕ) (xs : List ℕ) → writes n (x ∷ xs) ≡ writes_here n (x ∷ xs) || writes n xs
unfolding writes writes_here holds
writes-cons n x xs =
    mix (prefixed (n ++ 32 ∷ 61 ∷ []) (x ∷ xs)) (prefixed (n ++ 43 ∷ 43 ∷ []) (x ∷ xs)) (prefixed (43 ∷ 43 ∷ n) (x ∷ xs))
    (holds (n ++ 32 ∷ 61 ∷ []) xs) (holds (n ++ 43 ∷ 43 ∷ []) xs) (holds (43 ∷ 43 ∷ n) xs)

writes-none : (n : List ℕ) → writes n [] ≡ false
unfolding writes holds prefixed
writes-none [] = refl
writes-none (x ∷ n) = refl

-- a step of the loop, and its end
module _ (n l : List ℕ) (i : ℕ) where
  pub writes_end : length l ≤ i → writes n (drop i l) ≡ false
  writes_end h = ap (writes n) (drop_of_length-le l h) ∙ writes-none n

  pub writes_at : i < length l → (b : Bool) → writes_here n (part i (length l) l) ≡ b → writes n (drop i l) ≡ b || writes n (drop (i + 1) l)
  writes_at h b e = rw (← e, rest_of l i, cons-at l i h) (writes-cons n _ _)

-- ---- the places that `writes_word` looks at

-- nothing is written at a byte that is neither the first of the name nor a `+`
here-not : (b x : ℕ) (n xs : List ℕ) → (eqb x b || eqb x 43) ≡ false → writes_here (b ∷ n) (x ∷ xs) ≡ false
unfolding writes_here prefixed
here-not b x n xs e = go (eqb x b) (eqb x 43) refl refl e
  where
    go : (s t : Bool) → eqb x b ≡ s → eqb x 43 ≡ t → s || t ≡ false → writes_here (b ∷ n) (x ∷ xs) ≡ false
    go true t p q h = no (sym h)
    go false true p q h = no (sym h)
    go false false p q h = rw (eqb-sym b x ∙ p, eqb-sym 43 x ∙ q)

-- so the search goes on at the next byte
pub writes-skip : (n l : List ℕ) (j : ℕ) → 0 < length n → j < length l → (eqb (get_or l j 0) (get_or n 0 0) || eqb (get_or l j 0) 43) ≡ false → writes n (drop j l) ≡ writes n (drop (j + 1) l)
writes-skip [] l j h k e = absurd (omega arith)
writes-skip (b ∷ n) l j h k e = writes_at (b ∷ n) l j k false (ap (writes_here (b ∷ n)) (rest_of l j ∙ cons-at l j k) ∙ here-not b _ n _ e)

-- a name without bytes
pub writes-empty : (n l : List ℕ) → length n ≡ 0 → (holds (32 ∷ 61 ∷ []) l || holds (43 ∷ 43 ∷ []) l) ≡ writes n l
unfolding writes
writes-empty [] l h = ap (λ (t : Bool). holds (32 ∷ 61 ∷ []) l || t) (twice (holds (43 ∷ 43 ∷ []) l))
  where
    twice : (t : Bool) → t ≡ t || t
    twice true = refl
    twice false = refl
writes-empty (x ∷ n) l h = absurd (omega arith)

-- ---- one of the words

pub any-writes : (ns : List (List ℕ)) (l : List ℕ) → list_any (λ n. writes n l) ns ≡ writes_any ns l
unfolding writes_any
any-writes [] l = refl
any-writes (n ∷ ns) l = ap (λ (b : Bool). writes n l || b) (any-writes ns l)

-- ---- the whole

-- with the cleaned value, it is the rule of the Rust
pub breaks-clean : (rhs clean l : List ℕ) → clean ≡ strip_lexical rhs → breaks_with rhs (words_in clean) l ≡ breaks rhs l
unfolding breaks
breaks-clean rhs clean l e = ap (λ (c : List ℕ). breaks_with rhs (words_in c) l) e

-- by what the line is
module _ (rhs : List ℕ) (ns : List (List ℕ)) (l : List ℕ) where
  pub breaks-by : (p : Line) → p ≡ parse_of l → breaks_with rhs ns l ≡ breaks_by rhs ns l p
  unfolding breaks_with
  breaks-by p e = ap (breaks_by rhs ns l) (sym e)

  module _ (s : Store) (e : line.Store s ≡ parse_of l) where
    pub breaks-read : 0 < reads_of s.reg.0 rhs → breaks_with rhs ns l ≡ true
    breaks-read h = breaks-by (line.Store s) e ∙ rw (lt-ltb 0 (reads_of s.reg.0 rhs) h)

    pub breaks-else : reads_of s.reg.0 rhs ≤ 0 → breaks_with rhs ns l ≡ writes_any ns l
    breaks-else h = breaks-by (line.Store s) e ∙ rw (le-ltb 0 (reads_of s.reg.0 rhs) h)
