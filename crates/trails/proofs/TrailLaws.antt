-- Moves put into one table of raw moves come to what following the passes comes to. Assumes nothing.
use Prim.Native.Nat.{ℕ, zero, suc, ◌+◌, ◌-◌, ◌≤◌, ◌<◌}
use mathlib.Core.Path.{◌≡◌, refl, sym, ap, ◌∙◌}
use mathlib.Core.Bool.{Bool, true, false, cond}
use mathlib.Core.List.{List, [], ◌∷◌}
use native.Mathlib.Omega.{arith}
use native.Mathlib.Nat.{zero-add, add-zero}
use borrow.Author.Tests.{ne_eqb, eqb-true, lt-ltb, le-ltb, ltb-true, ltb-false}
use lib.Dec.{eqb, ltb}
use lib.ListN.{length, drop, get_or, replicate, get_or-eq_default}
use lib.Seq.{drop-drop, get_or-drop}
use Rattle.origins.specs.Inner.Codes.{far_move, half, taken_code, land_go, on_code, through, standing}
use Rattle.origins.proofs.TableLaws.{in-any, land-length, through-length}
use Rattle.trails.specs.Inner.Trails.{standing_from, sent_by, thinned}

-- ---- codes through two tables

taken-again : (c : ℕ) → taken_code (taken_code c) ≡ taken_code c
unfolding taken_code
taken-again c = go (ltb c half) refl
  where
    go : (b : Bool) → ltb c half ≡ b → cond (ltb (cond b (half + c) c) half) (half + cond b (half + c) c) (cond b (half + c) c) ≡ cond b (half + c) c
    go true e = rw (le-ltb (half + c) half (omega arith))
    go false e = rw e

high_same : (x : ℕ) → ltb x half ≡ false → taken_code x ≡ x
unfolding taken_code
high_same x e = rw e

entry-on : (xs ys : List ℕ) (i : ℕ) → on_code ys far_move ≡ far_move → get_or (through xs ys) i far_move ≡ on_code ys (get_or xs i far_move)
unfolding through
entry-on [] ys i f = sym f
entry-on (x ∷ xs) ys zero f = refl
entry-on (x ∷ xs) ys (suc i) f = entry-on xs ys i f

far-on : (ys : List ℕ) → length ys < half → on_code ys far_move ≡ far_move
unfolding on_code taken_code
far-on ys h = rw (get_or-eq_default ys far_move {n = far_move - half} (omega arith))

taken-on-low : (ys : List ℕ) (x : ℕ) → ltb x half ≡ true → on_code ys (taken_code x) ≡ taken_code (on_code ys x)
unfolding on_code taken_code
taken-on-low ys x e =
    let q : (half + x) - half ≡ x = omega arith in
    rw (e, le-ltb (half + x) half (omega arith), q)

taken-on-high : (ys : List ℕ) (x : ℕ) → ltb x half ≡ false → on_code ys (taken_code x) ≡ taken_code (on_code ys x)
unfolding on_code
taken-on-high ys x e = ap (on_code ys) (high_same x e) ∙ rw e (sym (taken-again (get_or ys (x - half) far_move)))

taken-on : (ys : List ℕ) (x : ℕ) → on_code ys (taken_code x) ≡ taken_code (on_code ys x)
taken-on ys x = go (ltb x half) refl
  where
    go : (b : Bool) → ltb x half ≡ b → on_code ys (taken_code x) ≡ taken_code (on_code ys x)
    go true e = taken-on-low ys x e
    go false e = taken-on-high ys x e

-- a code through both
on_both : (xs ys : List ℕ) (c : ℕ) → length ys < half → on_code ys (on_code xs c) ≡ on_code (through xs ys) c
unfolding on_code
on_both xs ys c h = go (ltb c half)
  where
    go : (b : Bool) → on_code ys (cond b (get_or xs c far_move) (taken_code (get_or xs (c - half) far_move))) ≡ cond b (get_or (through xs ys) c far_move) (taken_code (get_or (through xs ys) (c - half) far_move))
    go true = sym (entry-on xs ys c (far-on ys h))
    go false = taken-on ys (get_or xs (c - half) far_move) ∙ ap taken_code (sym (entry-on xs ys (c - half) (far-on ys h)))

-- going on through two tables is going on through the second one's codes of the first
pub through-both : (t xs ys : List ℕ) → length ys < half → through (through t xs) ys ≡ through t (through xs ys)
unfolding through
through-both [] xs ys h = refl
through-both (c ∷ t) xs ys h =
    ap (λ (n : ℕ). n ∷ through (through t xs) ys) (on_both xs ys c h) ∙ ap (λ (l : List ℕ). on_code (through xs ys) c ∷ l) (through-both t xs ys h)

not-zero : (n : ℕ) → eqb (suc n) 0 ≡ false
not-zero n = ne_eqb (suc n) 0 (omega arith)

-- ---- the lines that stand

pub standing-many : (ms : List ℕ) (i : ℕ) → length (standing_from ms i) ≡ standing ms
unfolding standing_from standing
standing-many [] i = refl
standing-many (m ∷ ms) i = go (eqb m 0) (standing-many ms (suc i))
  where
    go : (b : Bool) → length (standing_from ms (suc i)) ≡ standing ms → length (cond b (i ∷ standing_from ms (suc i)) (standing_from ms (suc i))) ≡ cond b (suc (standing ms)) (standing ms)
    go true e = ap suc e
    go false e = e

pub standing-most : (ms : List ℕ) → standing ms ≤ length ms
unfolding standing
standing-most [] = omega arith
standing-most (m ∷ ms) = go (eqb m 0) (standing-most ms)
  where
    go : (b : Bool) → standing ms ≤ length ms → cond b (suc (standing ms)) (standing ms) ≤ suc (length ms)
    go true h = omega arith
    go false h = omega arith

-- the n-th of them, counted from one line further up
standing-next : (ms : List ℕ) (i n : ℕ) → n < standing ms → get_or (standing_from ms (suc i)) n 0 ≡ suc (get_or (standing_from ms i) n 0)
unfolding standing_from standing
standing-next [] i n h = absurd (omega arith)
standing-next (m ∷ ms) i n h = go (eqb m 0) n h (standing-next ms (suc i))
  where
    go : (b : Bool) (n : ℕ) → n < cond b (suc (standing ms)) (standing ms) → ((j : ℕ) → j < standing ms → get_or (standing_from ms (suc (suc i))) j 0 ≡ suc (get_or (standing_from ms (suc i)) j 0)) →
        get_or (cond b (suc i ∷ standing_from ms (suc (suc i))) (standing_from ms (suc (suc i)))) n 0 ≡ suc (get_or (cond b (i ∷ standing_from ms (suc i)) (standing_from ms (suc i))) n 0)
    go true zero g f = refl
    go true (suc n) g f = f n (omega arith)
    go false n g f = f n g

standing-shift : (ms : List ℕ) (i n : ℕ) → n < standing ms → get_or (standing_from ms (suc i)) n 0 ≡ i + get_or (standing_from ms 1) n 0
standing-shift ms zero n h = sym (zero-add (get_or (standing_from ms 1) n 0))
standing-shift ms (suc i) n h = omega (arith, standing-next ms (suc i) n h, standing-shift ms i n h)

-- where it lands
land-nth : (ms : List ℕ) (s n : ℕ) → n < standing ms → get_or (land_go ms s) (get_or (standing_from ms 0) n 0) far_move ≡ s + n
unfolding land_go standing_from standing
land-nth [] s n h = absurd (omega arith)
land-nth (m ∷ ms) s n h = go (eqb m 0) n h (standing-next ms 0) (land-nth ms (suc s)) (land-nth ms s)
  where
    go : (b : Bool) (n : ℕ) → n < cond b (suc (standing ms)) (standing ms) → ((j : ℕ) → j < standing ms → get_or (standing_from ms 1) j 0 ≡ suc (get_or (standing_from ms 0) j 0)) →
        ((j : ℕ) → j < standing ms → get_or (land_go ms (suc s)) (get_or (standing_from ms 0) j 0) far_move ≡ suc s + j) → ((j : ℕ) → j < standing ms → get_or (land_go ms s) (get_or (standing_from ms 0) j 0) far_move ≡ s + j) →
        get_or (cond b (s ∷ land_go ms (suc s)) (taken_code (get_or (far_move ∷ land_go ms s) m far_move) ∷ land_go ms s)) (get_or (cond b (0 ∷ standing_from ms 1) (standing_from ms 1)) n 0) far_move ≡ s + n
    go true zero g e f k = sym (add-zero s)
    go true (suc n) g e f k =
        let q : suc s + n ≡ s + suc n = omega arith in
        ap (λ (j : ℕ). get_or (s ∷ land_go ms (suc s)) j far_move) (e n (omega arith)) ∙ f n (omega arith) ∙ q
    go false n g e f k = ap (λ (j : ℕ). get_or (taken_code (get_or (far_move ∷ land_go ms s) m far_move) ∷ land_go ms s) j far_move) (e n g) ∙ k n g

module _ (ms : List ℕ) (n : ℕ) where
  sent-in : n < standing ms → sent_by ms (suc n) ≡ suc (get_or (standing_from ms 0) n 0)
  sent-in h = in-any (standing_from ms 1) n far_move 0 (omega (arith, standing-many ms 1)) ∙ standing-next ms 0 n h

  sent-out : standing ms ≤ n → sent_by ms (suc n) ≡ far_move
  sent-out h = get_or-eq_default (standing_from ms 1) far_move {n = n} (omega (arith, standing-many ms 1))

sent-stands : (ms : List ℕ) (n : ℕ) → eqb (sent_by ms n) 0 ≡ eqb n 0
sent-stands ms zero = refl
sent-stands ms (suc n) = go (ltb n (standing ms)) refl ∙ sym (not-zero n)
  where
    go : (b : Bool) → ltb n (standing ms) ≡ b → eqb (sent_by ms (suc n)) 0 ≡ false
    go true e = ap (λ (x : ℕ). eqb x 0) (sent-in ms n (ltb-true n (standing ms) e)) ∙ not-zero (get_or (standing_from ms 0) n 0)
    go false e = ap (λ (x : ℕ). eqb x 0) (sent-out ms n (ltb-false n (standing ms) e))

-- ---- raw moves after a pass

pub thinned-none : (ms : List ℕ) → thinned ms [] ≡ ms
unfolding thinned
thinned-none [] = refl
thinned-none (m ∷ ms) = refl

-- a line that does not stand asks for no move
pub thinned-past : (m : ℕ) (ms ns : List ℕ) → eqb m 0 ≡ false → thinned (m ∷ ms) ns ≡ m ∷ thinned ms ns
unfolding thinned
thinned-past m ms [] e = ap (λ (l : List ℕ). m ∷ l) (sym (thinned-none ms))
thinned-past m ms (n ∷ ns) e = rw e

pub thinned-here : (m n : ℕ) (ms ns : List ℕ) → eqb m 0 ≡ true → thinned (m ∷ ms) (n ∷ ns) ≡ sent_by ms n ∷ thinned ms ns
unfolding thinned
thinned-here m n ms ns e = rw e

land-past : (m : ℕ) (ms : List ℕ) (o : ℕ) → eqb m 0 ≡ false → land_go (m ∷ ms) o ≡ taken_code (get_or (far_move ∷ land_go ms o) m far_move) ∷ land_go ms o
unfolding land_go
land-past m ms o e = rw e

land-here : (m : ℕ) (ms : List ℕ) (o : ℕ) → eqb m 0 ≡ true → land_go (m ∷ ms) o ≡ o ∷ land_go ms (suc o)
unfolding land_go
land-here m ms o e = rw e

-- where its lines go through the codes gs of the pass
module _ (gs : List ℕ) (z : length gs < half) where
  past-on : (m : ℕ) (ms ts : List ℕ) (s o : ℕ) → eqb m 0 ≡ false → land_go ts o ≡ through (land_go ms s) gs → land_go (m ∷ ts) o ≡ through (land_go (m ∷ ms) s) gs
  unfolding through
  past-on m ms ts s o e ih =
      let x : ℕ = get_or (far_move ∷ land_go ms s) m far_move in
      let far : on_code gs far_move ≡ far_move = far-on gs z in
      let head : taken_code (get_or (far_move ∷ through (land_go ms s) gs) m far_move) ≡ on_code gs (taken_code x) =
      ap (λ (c : ℕ). taken_code (get_or (c ∷ through (land_go ms s) gs) m far_move)) (sym far) ∙ ap taken_code (entry-on (far_move ∷ land_go ms s) gs m far) ∙ sym (taken-on gs x) in
      land-past m ts o e
      ∙ ap (λ (l : List ℕ). taken_code (get_or (far_move ∷ l) m far_move) ∷ l) ih
      ∙ ap (λ (c : ℕ). c ∷ through (land_go ms s) gs) head
      ∙ ap (λ (l : List ℕ). through l gs) (sym (land-past m ms s e))

  code_below : (s n : ℕ) → s + n < half → on_code gs (s + n) ≡ get_or (drop s gs) n far_move
  unfolding on_code
  code_below s n h = rw (lt-ltb (s + n) half h) (sym (get_or-drop s gs n far_move))

  code_here : (s : ℕ) (c : ℕ) (cs : List ℕ) → s < half → drop s gs ≡ c ∷ cs → on_code gs s ≡ c
  code_here s c cs h d = ap (on_code gs) (sym (add-zero s)) ∙ code_below s 0 (omega arith) ∙ ap (λ (l : List ℕ). get_or l 0 far_move) d

  codes-next : (s : ℕ) (c : ℕ) (cs : List ℕ) → drop s gs ≡ c ∷ cs → drop (suc s) gs ≡ cs
  codes-next s c cs d = let q : suc s ≡ s + 1 = omega arith in ap (λ (n : ℕ). drop n gs) q ∙ sym (drop-drop 1 s gs) ∙ ap (drop 1) d

  -- the code of the line that a line goes to
  sent-code : (ms ns : List ℕ) (s o n : ℕ) → standing ms ≡ length ns → suc s + length ms < half → drop (suc s) gs ≡ land_go ns o →
      get_or (far_move ∷ through (land_go ms (suc s)) gs) (sent_by ms (suc n)) far_move ≡ get_or (land_go ns o) n far_move
  sent-code ms ns s o n c h d = go (ltb n (standing ms)) refl
    where
      go : (b : Bool) → ltb n (standing ms) ≡ b → get_or (far_move ∷ through (land_go ms (suc s)) gs) (sent_by ms (suc n)) far_move ≡ get_or (land_go ns o) n far_move
      go true e =
          let k : n < standing ms = ltb-true n (standing ms) e in
          ap (λ (j : ℕ). get_or (far_move ∷ through (land_go ms (suc s)) gs) j far_move) (sent-in ms n k)
          ∙ entry-on (land_go ms (suc s)) gs (get_or (standing_from ms 0) n 0) (far-on gs z)
          ∙ ap (on_code gs) (land-nth ms (suc s) n k) ∙ code_below (suc s) n (omega (arith, standing-most ms, h, k)) ∙ ap (λ (l : List ℕ). get_or l n far_move) d
      go false e =
          let k : standing ms ≤ n = ltb-false n (standing ms) e in
          ap (λ (j : ℕ). get_or (far_move ∷ through (land_go ms (suc s)) gs) j far_move) (sent-out ms n k)
          ∙ get_or-eq_default (far_move ∷ through (land_go ms (suc s)) gs) far_move {n = far_move} (omega (arith, through-length (land_go ms (suc s)) gs, land-length ms (suc s), h))
          ∙ sym (get_or-eq_default (land_go ns o) far_move {n = n} (omega (arith, land-length ns o, c, k)))

  here_on : (m n : ℕ) (ms ns ts : List ℕ) (s o : ℕ) → eqb m 0 ≡ true → standing ms ≡ length ns → suc s + length ms < half → drop s gs ≡ land_go (n ∷ ns) o →
      ((p : ℕ) → drop (suc s) gs ≡ land_go ns p → land_go ts p ≡ through (land_go ms (suc s)) gs) → land_go (sent_by ms n ∷ ts) o ≡ through (land_go (m ∷ ms) s) gs
  unfolding through
  here_on m zero ms ns ts s o e c h d ih =
      let w : drop s gs ≡ o ∷ land_go ns (suc o) = d ∙ land-here 0 ns o refl in
      land-here 0 ts o refl
      ∙ ap (λ (l : List ℕ). o ∷ l) (ih (suc o) (codes-next s o (land_go ns (suc o)) w))
      ∙ ap (λ (x : ℕ). x ∷ through (land_go ms (suc s)) gs) (sym (code_here s o (land_go ns (suc o)) (omega arith) w))
      ∙ ap (λ (l : List ℕ). through l gs) (sym (land-here m ms s e))
  here_on m (suc n) ms ns ts s o e c h d ih =
      let x : ℕ = taken_code (get_or (land_go ns o) n far_move) in
      let w : drop s gs ≡ x ∷ land_go ns o = d ∙ land-past (suc n) ns o (not-zero n) in
      let v : drop (suc s) gs ≡ land_go ns o = codes-next s x (land_go ns o) w in
      land-past (sent_by ms (suc n)) ts o (sent-stands ms (suc n) ∙ not-zero n)
      ∙ ap (λ (l : List ℕ). taken_code (get_or (far_move ∷ l) (sent_by ms (suc n)) far_move) ∷ l) (ih o v)
      ∙ ap (λ (y : ℕ). taken_code y ∷ through (land_go ms (suc s)) gs) (sent-code ms ns s o n c h v)
      ∙ ap (λ (y : ℕ). y ∷ through (land_go ms (suc s)) gs) (sym (code_here s x (land_go ns o) (omega arith) w))
      ∙ ap (λ (l : List ℕ). through l gs) (sym (land-here m ms s e))

  thinned-go : (ms ns : List ℕ) (s o : ℕ) → standing ms ≡ length ns → s + length ms < half → drop s gs ≡ land_go ns o → land_go (thinned ms ns) o ≡ through (land_go ms s) gs
  unfolding land_go thinned through standing
  thinned-go [] ns s o c h d = refl
  thinned-go (m ∷ ms) ns s o c h d = go (eqb m 0) refl ns c d (thinned-go ms)
    where
      go : (b : Bool) → eqb m 0 ≡ b → (ns : List ℕ) → cond b (suc (standing ms)) (standing ms) ≡ length ns → drop s gs ≡ land_go ns o →
          ((ns : List ℕ) (s o : ℕ) → standing ms ≡ length ns → s + length ms < half → drop s gs ≡ land_go ns o → land_go (thinned ms ns) o ≡ through (land_go ms s) gs) →
          land_go (thinned (m ∷ ms) ns) o ≡ through (land_go (m ∷ ms) s) gs
      go true e [] k w ih = absurd (omega arith)
      go true e (n ∷ ns) k w ih =
          let l : standing ms ≡ length ns = omega arith in
          ap (λ (t : List ℕ). land_go t o) (thinned-here m n ms ns e) ∙ here_on m n ms ns (thinned ms ns) s o e l (omega arith) w (λ p v. ih ns (suc s) p l (omega arith) v)
      go false e ns k w ih = ap (λ (t : List ℕ). land_go t o) (thinned-past m ms ns e) ∙ past-on m ms (thinned ms ns) s o e (ih ns s o k (omega arith) w)

-- raw moves after a pass lead where the raw moves and then those of the pass lead
pub thinned-land : (raw ns : List ℕ) → standing raw ≡ length ns → length raw < half → land_go (thinned raw ns) 0 ≡ through (land_go raw 0) (land_go ns 0)
thinned-land raw ns c h = thinned-go (land_go ns 0) (omega (arith, land-length ns 0, standing-most raw, c)) raw ns 0 0 c (omega arith) refl

pub thinned-length : (ms ns : List ℕ) → length (thinned ms ns) ≡ length ms
unfolding thinned
thinned-length [] ns = refl
thinned-length (m ∷ ms) [] = refl
thinned-length (m ∷ ms) (n ∷ ns) = go (eqb m 0) (thinned-length ms ns) (thinned-length ms (n ∷ ns))
  where
    go : (b : Bool) → length (thinned ms ns) ≡ length ms → length (thinned ms (n ∷ ns)) ≡ length ms → length (cond b (sent_by ms n ∷ thinned ms ns) (m ∷ thinned ms (n ∷ ns))) ≡ suc (length ms)
    go true h k = ap suc h
    go false h k = ap suc k

pub thinned-stay : (ms : List ℕ) (n : ℕ) → thinned ms (replicate n 0) ≡ ms
unfolding thinned
thinned-stay [] n = refl
thinned-stay (m ∷ ms) zero = refl
thinned-stay (m ∷ ms) (suc n) = go (eqb m 0) refl (thinned-stay ms n) (thinned-stay ms (suc n))
  where
    go : (b : Bool) → eqb m 0 ≡ b → thinned ms (replicate n 0) ≡ ms → thinned ms (replicate (suc n) 0) ≡ ms → cond b (0 ∷ thinned ms (replicate n 0)) (m ∷ thinned ms (replicate (suc n) 0)) ≡ m ∷ ms
    go true e h k = ap (λ (l : List ℕ). 0 ∷ l) h ∙ ap (λ (x : ℕ). x ∷ ms) (sym (eqb-true m 0 e))
    go false e h k = ap (λ (l : List ℕ). m ∷ l) k

-- as many lines stand as by the moves of the pass
pub thinned-standing : (ms ns : List ℕ) → standing ms ≡ length ns → standing (thinned ms ns) ≡ standing ns
unfolding thinned standing
thinned-standing [] [] c = refl
thinned-standing [] (n ∷ ns) c = absurd (omega arith)
thinned-standing (m ∷ ms) ns c = go (eqb m 0) refl ns c (thinned-standing ms)
  where
    by : (n : ℕ) (ts : List ℕ) (b : Bool) → eqb (sent_by ms n) 0 ≡ b → standing (sent_by ms n ∷ ts) ≡ cond b (suc (standing ts)) (standing ts)
    by n ts b e = rw e

    past : (ts : List ℕ) → eqb m 0 ≡ false → standing (m ∷ ts) ≡ standing ts
    past ts e = rw e

    go : (b : Bool) → eqb m 0 ≡ b → (ns : List ℕ) → cond b (suc (standing ms)) (standing ms) ≡ length ns → ((ns : List ℕ) → standing ms ≡ length ns → standing (thinned ms ns) ≡ standing ns) →
        standing (thinned (m ∷ ms) ns) ≡ standing ns
    go true e [] k ih = absurd (omega arith)
    go true e (n ∷ ns) k ih =
        ap standing (thinned-here m n ms ns e) ∙ by n (thinned ms ns) (eqb n 0) (sent-stands ms n) ∙ ap (λ (x : ℕ). cond (eqb n 0) (suc x) x) (ih ns (omega arith))
    go false e ns k ih = ap standing (thinned-past m ms ns e) ∙ past (thinned ms ns) e ∙ ih ns k
