-- Laws of the searches below a line: for a read, for the next use, for how often. Assumes nothing.
use Prim.Native.Nat.{ℕ, suc, ◌+◌, ◌≤◌, ◌<◌, min}
use mathlib.Core.Path.{◌≡◌, refl, sym, ap, ◌∙◌}
use mathlib.Core.Bool.{Bool, true, false, cond, not, ◌&&◌, ◌||◌}
use mathlib.Core.List.{List, [], ◌∷◌}
use native.Mathlib.Omega.{arith}
use native.Mathlib.Numerals.{add-one}
use borrow.Author.Tests.{lt-ltb, le-ltb, ne_eqb}
use lib.Dec.{eqb, ltb}
use lib.ListN.{length, drop, get_or, drop_of_length-le}
use lib.Seq.{drop-cons}
use Rattle.lines.specs.Lf.{part, up_to, lines_of}
use Rattle.lines.proofs.LfLaws.{lines-at, lines_end}
use Rattle.place.specs.Region.{is_header}
use Rattle.reading.specs.Uses.{line_reads, line_stores}
use Rattle.once.specs.Scratch.{live_below}
use Rattle.once.specs.Once.{none, read, write, spots_of, lines_in, next_use, read_count, later_read}
use Rattle.once.specs.Inner.Tables.{read_below, next_in}

-- ---- a read before the next store

-- the search down to the end of the region, and that of all lines
pub below-live : (v : ℕ) (ls : List (List ℕ)) → read_below false v ls ≡ live_below v ls
unfolding read_below live_below
below-live v [] = refl
below-live v (l ∷ ls) = rw (below-live v ls)

pub below-later : (v : ℕ) (ls : List (List ℕ)) → read_below true v ls ≡ later_read v ls
unfolding read_below later_read
below-later v [] = refl
below-later v (l ∷ ls) = rw (below-later v ls)

below-cons : (far : Bool) (v : ℕ) (l : List ℕ) (ls : List (List ℕ)) (a b c : Bool) → not far && is_header l ≡ a → line_stores v l ≡ b → ltb 0 (line_reads v l) ≡ c →
    read_below far v (l ∷ ls) ≡ cond a false (not b && (c || read_below far v ls))
unfolding read_below
below-cons far v l ls a b c p q r = rw (p, q, r)

module _ (far : Bool) (v : ℕ) (s : List ℕ) (i e : ℕ) (h : i < length s) (q : e ≡ i + up_to 10 (drop i s)) where
  pub below-header : not far && is_header (part i e s) ≡ true → read_below far v (lines_of (drop i s)) ≡ false
  below-header k = ap (read_below far v) (lines-at s i e h q) ∙ below-cons far v _ _ true _ _ k refl refl

  module _ (no : not far && is_header (part i e s) ≡ false) where
    pub below-stored : line_stores v (part i e s) ≡ true → read_below far v (lines_of (drop i s)) ≡ false
    below-stored k = ap (read_below far v) (lines-at s i e h q) ∙ below-cons far v _ _ false true _ no k refl

    module _ (kept : line_stores v (part i e s) ≡ false) (n : ℕ) (m : n ≡ line_reads v (part i e s)) where
      pub below-read : 0 < n → read_below far v (lines_of (drop i s)) ≡ true
      below-read k =
          ap (read_below far v) (lines-at s i e h q) ∙ below-cons far v _ _ false false true no kept (ap (λ (z : ℕ). ltb 0 z) (sym m) ∙ lt-ltb 0 n k)

      pub below_on : (r : ℕ) → r ≡ min (e + 1) (length s) → n ≤ 0 → read_below far v (lines_of (drop i s)) ≡ read_below far v (lines_of (drop r s))
      below_on r z k =
          ap (read_below far v) (lines-at s i e h q)
          ∙ below-cons far v _ _ false false false no kept (ap (λ (z : ℕ). ltb 0 z) (sym m) ∙ le-ltb 0 n k)
          ∙ ap (λ (n : ℕ). read_below far v (lines_of (drop n s))) (sym z)

pub below_end : (far : Bool) (v : ℕ) (s : List ℕ) (i : ℕ) → length s ≤ i → read_below far v (lines_of (drop i s)) ≡ false
unfolding read_below
below_end far v s i h = ap (read_below far v) (lines_end s i h)

-- ---- the next use

-- the numbers of the block paths in a list of their own, or beside their lines
pub next-in : (v : ℕ) (ls : List (List ℕ)) (ps : List ℕ) (bs : List Bool) → length ls ≤ length bs → next_use v (spots_of ls ps bs) ≡ next_in v ls ps
unfolding next_use spots_of next_in
next-in v [] ps bs h = refl
next-in v (l ∷ ls) [] bs h = refl
next-in v (l ∷ ls) (p ∷ ps) [] h = absurd (omega arith)
next-in v (l ∷ ls) (p ∷ ps) (b ∷ bs) h = rw (next-in v ls ps bs (omega arith))

pub lines-in : (ls : List (List ℕ)) (ps : List ℕ) (bs : List Bool) → length ls ≤ length ps → length ls ≤ length bs → lines_in (spots_of ls ps bs) ≡ ls
unfolding spots_of lines_in
lines-in [] ps bs g h = refl
lines-in (l ∷ ls) [] bs g h = absurd (omega arith)
lines-in (l ∷ ls) (p ∷ ps) [] g h = absurd (omega arith)
lines-in (l ∷ ls) (p ∷ ps) (b ∷ bs) g h = ap (λ (xs : List (List ℕ)). l ∷ xs) (lines-in ls ps bs (omega arith) (omega arith))

next-cons : (v : ℕ) (l : List ℕ) (ls : List (List ℕ)) (p : ℕ) (ps : List ℕ) (a b c : Bool) → is_header l ≡ a → ltb 0 (line_reads v l) ≡ b → line_stores v l ≡ c →
    next_in v (l ∷ ls) (p ∷ ps) ≡ cond a none (cond b read (cond c (write p) (next_in v ls ps)))
unfolding next_in
next-cons v l ls p ps a b c x y z = rw (x, y, z)

-- with no number, as with no line, there is none
next-short : (v : ℕ) (ls : List (List ℕ)) → next_in v ls [] ≡ none
unfolding next_in
next-short v [] = refl
next-short v (l ∷ ls) = refl

next-empty : (v : ℕ) (ps : List ℕ) → next_in v [] ps ≡ none
unfolding next_in
next-empty v ps = refl

pub next_past : (v : ℕ) (s ps : List ℕ) (i k : ℕ) → length ps ≤ k → next_in v (lines_of (drop i s)) (drop k ps) ≡ none
next_past v s ps i k h = ap (next_in v (lines_of (drop i s))) (drop_of_length-le ps h) ∙ next-short v (lines_of (drop i s))

pub next-end : (v : ℕ) (s ps : List ℕ) (i k : ℕ) → length s ≤ i → next_in v (lines_of (drop i s)) (drop k ps) ≡ none
next-end v s ps i k h = ap (λ (ls : List (List ℕ)). next_in v ls (drop k ps)) (lines_end s i h) ∙ next-empty v (drop k ps)

module _ (v : ℕ) (s ps : List ℕ) (i e k : ℕ) (h : i < length s) (q : e ≡ i + up_to 10 (drop i s)) (g : k < length ps) where
  next-at : next_in v (lines_of (drop i s)) (drop k ps) ≡ next_in v (part i e s ∷ lines_of (drop (min (e + 1) (length s)) s)) (get_or ps k 0 ∷ drop (suc k) ps)
  next-at =
      ap (λ (ls : List (List ℕ)). next_in v ls (drop k ps)) (lines-at s i e h q)
      ∙ ap (next_in v (part i e s ∷ lines_of (drop (min (e + 1) (length s)) s))) (drop-cons ps k 0 g)

  pub next-header : is_header (part i e s) ≡ true → next_in v (lines_of (drop i s)) (drop k ps) ≡ none
  next-header t = next-at ∙ next-cons v _ _ _ _ true _ _ t refl refl

  module _ (no : is_header (part i e s) ≡ false) (n : ℕ) (m : n ≡ line_reads v (part i e s)) where
    pub next-read : 0 < n → next_in v (lines_of (drop i s)) (drop k ps) ≡ read
    next-read t = next-at ∙ next-cons v _ _ _ _ false true _ no (ap (λ (z : ℕ). ltb 0 z) (sym m) ∙ lt-ltb 0 n t) refl

    module _ (kept : n ≤ 0) where
      pub next-write : line_stores v (part i e s) ≡ true → next_in v (lines_of (drop i s)) (drop k ps) ≡ write (get_or ps k 0)
      next-write t = next-at ∙ next-cons v _ _ _ _ false false true no (ap (λ (z : ℕ). ltb 0 z) (sym m) ∙ le-ltb 0 n kept) t

      pub next-on : (r : ℕ) → r ≡ min (e + 1) (length s) → line_stores v (part i e s) ≡ false → next_in v (lines_of (drop i s)) (drop k ps) ≡ next_in v (lines_of (drop r s)) (drop (k + 1) ps)
      next-on r z t =
          next-at
          ∙ next-cons v _ _ _ _ false false false no (ap (λ (z : ℕ). ltb 0 z) (sym m) ∙ le-ltb 0 n kept) t
          ∙ ap (λ (n : ℕ). next_in v (lines_of (drop n s)) (drop (suc k) ps)) (sym z)
          ∙ ap (λ (n : ℕ). next_in v (lines_of (drop r s)) (drop n ps)) (sym (add-one k))

-- ---- how often lines read a register

count-cons : (v : ℕ) (l : List ℕ) (ls : List (List ℕ)) → read_count v (l ∷ ls) ≡ line_reads v l + read_count v ls
unfolding read_count
count-cons v l ls = refl

module _ (v : ℕ) (s : List ℕ) (i e : ℕ) (h : i < length s) (q : e ≡ i + up_to 10 (drop i s)) (m : ℕ) (f : m ≡ line_reads v (part i e s)) where
  pub count-on : (r : ℕ) → r ≡ min (e + 1) (length s) → read_count v (lines_of (drop i s)) ≡ m + read_count v (lines_of (drop r s))
  count-on r z =
      ap (read_count v) (lines-at s i e h q)
      ∙ count-cons v _ _
      ∙ ap (λ (n : ℕ). n + read_count v (lines_of (drop (min (e + 1) (length s)) s))) (sym f)
      ∙ ap (λ (n : ℕ). m + read_count v (lines_of (drop n s))) (sym z)

  -- too many of them already
  pub count-many : (n : ℕ) → 1 < n + m → n + read_count v (lines_of (drop i s)) ≡ read_count v (lines_of s) → eqb (read_count v (lines_of s)) 1 ≡ false
  count-many n t c = ne_eqb _ _ (λ (z : read_count v (lines_of s) ≡ 1). omega (arith, count-on (min (e + 1) (length s)) refl))

pub count-end : (v : ℕ) (s : List ℕ) (i : ℕ) → length s ≤ i → read_count v (lines_of (drop i s)) ≡ 0
unfolding read_count
count-end v s i h = ap (read_count v) (lines_end s i h)
