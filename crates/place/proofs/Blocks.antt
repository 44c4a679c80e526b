-- Blocks of lines that are cut. Assumes nothing.
use Prim.Native.Nat.{ℕ, zero, suc, ◌+◌, ◌≤◌, ◌<◌}
use mathlib.Core.Path.{◌≡◌, refl, sym, ap, ◌∙◌}
use mathlib.Core.Bool.{Bool, true, false}
use mathlib.Core.List.{List, [], ◌∷◌, ◌++◌}
use native.Mathlib.Omega.{arith}
use borrow.Author.Tests.{eq-eqb, ne_eqb, eqb-true, eqb-false}
use lib.ListN.{length, get_or, get_or-append}
use lib.Seq.{get_or-append-add}
use lib.Dec.{eqb}
use Rattle.lines.proofs.Tests.{no, and_left, and_right}
use Rattle.lexical.specs.Lex.{strip_lexical}
use Rattle.place.specs.Blocks.{Brace, opens, closes, neither, brace_of, push, count, top, stack_after, next_after, blocks_go, blocks, cleaned}
use Rattle.place.specs.Inner.Blocks.{block_ids, may_at, depth_at, depth_after, own_line, own_go, own}
use Rattle.place.specs.Paths.{tops}
use Rattle.place.specs.Inner.Parents.{braces, ids_pre, ids_post}
use Rattle.place.proofs.Stacks.{walk, tally, Given, given-pos, given-top, given-walk, given-first, noted}

-- ---- the definition is the reading of every brace, none of them before a line is noted

walk-line : (l : List ℕ) (n : ℕ) (s : List ℕ) → walk (braces l) n s ≡ stack_after l n s
unfolding walk braces stack_after
walk-line [] n s = refl
walk-line (x ∷ xs) n s = walk-line xs (count (brace_of x) n) (push (brace_of x) n s)

tally-line : (l : List ℕ) (n : ℕ) → tally (braces l) n ≡ next_after l n
unfolding tally braces next_after
tally-line [] n = refl
tally-line (x ∷ xs) n = tally-line xs (count (brace_of x) n)

pub blocks-noted : (ls : List (List ℕ)) (n : ℕ) (s : List ℕ) → blocks_go (cleaned ls) n s ≡ tops (noted ids_pre ids_post ls n s)
unfolding blocks_go cleaned tops noted walk ids_post
blocks-noted [] n s = refl
blocks-noted (l ∷ ls) n s =
    ap (λ (r : List ℕ). top s ∷ r)
    (blocks-noted ls (next_after (strip_lexical l) n) (stack_after (strip_lexical l) n s)
    ∙ ap (λ (k : ℕ). tops (noted ids_pre ids_post ls k (stack_after (strip_lexical l) n s))) (sym (tally-line (strip_lexical l) n))
    ∙ ap (λ (w : List ℕ). tops (noted ids_pre ids_post ls (tally (braces (strip_lexical l)) n) w)) (sym (walk-line (strip_lexical l) n s)))

-- ---- the next number and the open blocks below some lines

unfoldable pub next_go : List (List ℕ) → ℕ → ℕ
next_go [] n = n
next_go (l ∷ ls) n = next_go ls (next_after l n)

unfoldable pub stack_go : List (List ℕ) → ℕ → List ℕ → List ℕ
stack_go [] n s = s
stack_go (l ∷ ls) n s = stack_go ls (next_after l n) (stack_after l n s)

given-line : (l : List ℕ) {n : ℕ} {s : List ℕ} → Given n s → Given (next_after l n) (stack_after l n s)
given-line l {n} {s} g = rw (tally-line l n, walk-line l n s) at (given-walk (braces l) g)

given-lines : (ls : List (List ℕ)) {n : ℕ} {s : List ℕ} → Given n s → Given (next_go ls n) (stack_go ls n s)
unfolding next_go stack_go
given-lines [] g = g
given-lines (l ∷ ls) g = given-lines ls (given-line l g)

unfoldable pub next_below : List (List ℕ) → ℕ
next_below us = next_go us 1

unfoldable pub block_below : List (List ℕ) → ℕ
block_below us = top (stack_go us 1 [])

-- ---- the renaming: t is the block that the lines are cut in, d the next number there

unfoldable pub rename : ℕ → ℕ → ℕ → ℕ
rename t d zero = t
rename t d (suc k) = k + d

unfoldable pub renamed : ℕ → ℕ → List ℕ → List ℕ
renamed t d [] = []
renamed t d (x ∷ xs) = rename t d x ∷ renamed t d xs

-- ---- the two walks: over u, after m numbers, and over nothing

data Over (m : ℕ) (u : List ℕ) : List ℕ → List ℕ → ℕ → Type 0 where
  none : Over m u u [] 0
  some : {w s : List ℕ} {d : ℕ} (k : ℕ) → Over m u w s d → Over m u ((suc k + m) ∷ w) (suc k ∷ s) (suc d)

count-up : (b : Brace) (k m : ℕ) → count b (k + m) ≡ count b k + m
unfolding count
count-up opens k m = omega arith
count-up closes k m = refl
count-up neither k m = refl

count-pos : (b : Brace) (n : ℕ) → 1 ≤ n → 1 ≤ count b n
unfolding count
count-pos opens n p = omega arith
count-pos closes n p = p
count-pos neither n p = p

next-pos : (l : List ℕ) (n : ℕ) → 1 ≤ n → 1 ≤ next_after l n
unfolding next_after
next-pos [] n p = p
next-pos (x ∷ xs) n p = next-pos xs (count (brace_of x) n) (count-pos (brace_of x) n p)

next_up : (l : List ℕ) (k m : ℕ) → next_after l (k + m) ≡ next_after l k + m
unfolding next_after
next_up [] k m = refl
next_up (x ∷ xs) k m = ap (next_after xs) (count-up (brace_of x) k m) ∙ next_up xs (count (brace_of x) k) m

module _ (m : ℕ) (u : List ℕ) where
  over_by : (b : Brace) {w s : List ℕ} {d : ℕ} (n : ℕ) → 1 ≤ n → may_at b d ≡ true → Over m u w s d → Over m u (push b (n + m) w) (push b n s) (depth_at b d)
  unfolding push may_at depth_at
  over_by opens zero p h o = absurd (omega arith)
  over_by opens (suc k) p h o = some k o
  over_by closes n p h none = no h
  over_by closes n p h (some k o) = o
  over_by neither n p h o = o

  over-top : {w s : List ℕ} {d : ℕ} → Over m u w s d → top w ≡ rename (top u) (suc m) (top s)
  unfolding top rename
  over-top none = refl
  over-top (some k o) = omega arith

  over-line : (l : List ℕ) {w s : List ℕ} {d : ℕ} (n : ℕ) → 1 ≤ n → own_line l d ≡ true → Over m u w s d →
      Over m u (stack_after l (n + m) w) (stack_after l n s) (depth_after l d)
  unfolding stack_after depth_after own_line
  over-line [] n p h o = o
  over-line (x ∷ xs) {w} {s} {d} n p h o =
      rw (count-up (brace_of x) n m)
      (over-line xs (count (brace_of x) n) (count-pos (brace_of x) n p) (and_right (may_at (brace_of x) d) (own_line xs (depth_at (brace_of x) d)) h)
      (over_by (brace_of x) n p (and_left (may_at (brace_of x) d) (own_line xs (depth_at (brace_of x) d)) h) o))

  over-lines : (ls : List (List ℕ)) {w s : List ℕ} {d : ℕ} (n : ℕ) → 1 ≤ n → own_go ls d ≡ true → Over m u w s d →
      blocks_go ls (n + m) w ≡ renamed (top u) (suc m) (blocks_go ls n s)
  unfolding blocks_go renamed own_go
  over-lines [] n p h o = refl
  over-lines (l ∷ ls) {w} {s} {d} n p h o =
      let a : top w ≡ rename (top u) (suc m) (top s) = over-top o in
      let b : blocks_go ls (next_after l n + m) (stack_after l (n + m) w) ≡ renamed (top u) (suc m) (blocks_go ls (next_after l n) (stack_after l n s)) =
      over-lines ls (next_after l n) (next-pos l n p) (and_right (own_line l d) (own_go ls (depth_after l d)) h)
      (over-line l n p (and_left (own_line l d) (own_go ls (depth_after l d)) h) o) in
      let c : next_after l (n + m) ≡ next_after l n + m = next_up l n m in
      rw c (cc)

blocks-append : (us ts : List (List ℕ)) (n : ℕ) (s : List ℕ) → blocks_go (us ++ ts) n s ≡ blocks_go us n s ++ blocks_go ts (next_go us n) (stack_go us n s)
unfolding blocks_go next_go stack_go
blocks-append [] ts n s = refl
blocks-append (l ∷ us) ts n s = ap (λ (r : List ℕ). top s ∷ r) (blocks-append us ts (next_after l n) (stack_after l n s))

-- the upper lines' blocks are those of the upper lines alone, and the tail's those of the tail alone, renamed
pub blocks-cut : (us ts : List (List ℕ)) → own ts ≡ true → blocks (us ++ ts) ≡ blocks us ++ renamed (block_below us) (next_below us) (blocks ts)
unfolding blocks own block_below next_below
blocks-cut us ts h =
    let g : Given (next_go us 1) (stack_go us 1 []) = given-lines us given-first in
    blocks-append us ts 1 [] ∙ ap (λ (r : List ℕ). blocks_go us 1 [] ++ r) (from (next_go us 1) (stack_go us 1 []) (given-pos g))
  where
    one_more : (m : ℕ) → 1 + m ≡ suc m
    one_more m = omega arith

    from : (n : ℕ) (u : List ℕ) → 1 ≤ n → blocks_go ts n u ≡ renamed (top u) n (blocks_go ts 1 [])
    from zero u p = absurd (omega arith)
    from (suc m) u p = rw (one_more m) at (over-lines m u ts 1 (omega arith) h none)

-- ---- the renaming is one to one

pub below-lt : (us : List (List ℕ)) → block_below us < next_below us
unfolding block_below next_below
below-lt us = given-top (given-lines us given-first)

pub same-renamed : (t d a b : ℕ) → t < d → eqb (rename t d a) (rename t d b) ≡ eqb a b
unfolding rename
same-renamed t d zero zero h = eq-eqb t t refl
same-renamed t d zero (suc b) h = ne_eqb t (b + d) (λ e. omega arith) ∙ sym (ne_eqb 0 (suc b) (λ e. omega arith))
same-renamed t d (suc a) zero h = ne_eqb (a + d) t (λ e. omega arith) ∙ sym (ne_eqb (suc a) 0 (λ e. omega arith))
same-renamed t d (suc a) (suc b) h = go (eqb (suc a) (suc b)) refl
  where
    go : (v : Bool) → eqb (suc a) (suc b) ≡ v → eqb (a + d) (b + d) ≡ v
    go true e = let q = eqb-true (suc a) (suc b) e in eq-eqb (a + d) (b + d) (omega arith)
    go false e = let q = eqb-false (suc a) (suc b) e in ne_eqb (a + d) (b + d) (λ z. q (omega arith))

-- ---- two lines stand in one block: in the whole exactly if in their part

unfoldable pub same_block : List (List ℕ) → ℕ → ℕ → Bool
same_block ls i j = eqb (get_or (blocks ls) i 0) (get_or (blocks ls) j 0)

renamed-at : (t d : ℕ) (xs : List ℕ) (i : ℕ) → i < length xs → get_or (renamed t d xs) i 0 ≡ rename t d (get_or xs i 0)
unfolding renamed
renamed-at t d [] i h = absurd (omega arith)
renamed-at t d (x ∷ xs) zero h = refl
renamed-at t d (x ∷ xs) (suc i) h = renamed-at t d xs i (omega arith)

blocks-length : (ls : List (List ℕ)) (n : ℕ) (s : List ℕ) → length (blocks_go ls n s) ≡ length ls
unfolding blocks_go
blocks-length [] n s = refl
blocks-length (l ∷ ls) n s = ap suc (blocks-length ls (next_after l n) (stack_after l n s))

pub length-blocks : (ls : List (List ℕ)) → length (blocks ls) ≡ length ls
unfolding blocks
length-blocks ls = blocks-length ls 1 []

at_tail : (us ts : List (List ℕ)) (i : ℕ) → own ts ≡ true → i < length ts → get_or (blocks (us ++ ts)) (length us + i) 0 ≡ rename (block_below us) (next_below us) (get_or (blocks ts) i 0)
at_tail us ts i h p =
    ap (λ (r : List ℕ). get_or r (length us + i) 0) (blocks-cut us ts h)
    ∙ ap (λ (k : ℕ). get_or (blocks us ++ renamed (block_below us) (next_below us) (blocks ts)) (k + i) 0) (sym (length-blocks us))
    ∙ get_or-append-add (blocks us) (renamed (block_below us) (next_below us) (blocks ts)) i 0
    ∙ renamed-at (block_below us) (next_below us) (blocks ts) i (omega (arith, length-blocks ts))

pub same-tail : (us ts : List (List ℕ)) (i j : ℕ) → own ts ≡ true → i < length ts → j < length ts →
    same_block (us ++ ts) (length us + i) (length us + j) ≡ same_block ts i j
unfolding same_block
same-tail us ts i j h p q =
    ap (λ (k : ℕ). eqb k (get_or (blocks (us ++ ts)) (length us + j) 0)) (at_tail us ts i h p)
    ∙ ap (λ (k : ℕ). eqb (rename (block_below us) (next_below us) (get_or (blocks ts) i 0)) k) (at_tail us ts j h q)
    ∙ same-renamed (block_below us) (next_below us) (get_or (blocks ts) i 0) (get_or (blocks ts) j 0) (below-lt us)

at-upper : (us ts : List (List ℕ)) (i : ℕ) → i < length us → get_or (blocks (us ++ ts)) i 0 ≡ get_or (blocks us) i 0
unfolding blocks
at-upper us ts i p =
    ap (λ (r : List ℕ). get_or r i 0) (blocks-append us ts 1 [])
    ∙ get_or-append (blocks_go us 1 []) (blocks_go ts (next_go us 1) (stack_go us 1 [])) 0 i (omega (arith, blocks-length us 1 []))

-- of the upper lines, whatever stands below
pub same-upper : (us ts : List (List ℕ)) (i j : ℕ) → i < length us → j < length us → same_block (us ++ ts) i j ≡ same_block us i j
unfolding same_block
same-upper us ts i j p q = rw (at-upper us ts i p, at-upper us ts j q)

-- ---- cleaning line by line

pub cleaned-append : (xs ys : List (List ℕ)) → cleaned (xs ++ ys) ≡ cleaned xs ++ cleaned ys
unfolding cleaned
cleaned-append [] ys = refl
cleaned-append (x ∷ xs) ys = ap (λ (r : List (List ℕ)). strip_lexical x ∷ r) (cleaned-append xs ys)

pub cleaned-length : (xs : List (List ℕ)) → length (cleaned xs) ≡ length xs
unfolding cleaned
cleaned-length [] = refl
cleaned-length (x ∷ xs) = ap suc (cleaned-length xs)

pub length_ids : (ls : List (List ℕ)) → length (block_ids ls) ≡ length ls
length_ids ls = length-blocks (cleaned ls) ∙ cleaned-length ls
