-- Where the one hit is, and what replacing it makes. Assumes nothing.
use Prim.Native.Nat.{ℕ, zero, suc, ◌+◌, ◌-◌, ◌^◌, ◌≤◌, ◌<◌}
use mathlib.Core.Path.{◌≡◌, refl, sym, ap, ◌∙◌}
use mathlib.Core.Bool.{Bool, true, false, cond, ◌||◌}
use mathlib.Core.List.{List, [], ◌∷◌, ◌++◌}
use native.Mathlib.Numerals.{add-one}
use native.Mathlib.Omega.{arith}
use borrow.Author.Tests.{le-ltb, lt-ltb}
use lib.Dec.{eqb}
use lib.ListN.{length, take, drop, get_or, length-append, length-take, length-drop, take-append-drop}
use lib.Seq.{drop-drop, take-append_seam}
use Rattle.lines.specs.Lf.{part, prefixed, same, all}
use Rattle.lines.specs.Inner.Lf.{lacks}
use Rattle.lines.proofs.LfLaws.{lacks-append, lacks-take, lacks-drop}
use Rattle.lines.proofs.Tests.{and_left, and_right, and_both, eqb-sym}
use Rattle.text.specs.Class.{is_name}
use Rattle.text.specs.declared.Span.{Span}
use Rattle.names.specs.Names.{decimal, reg_word, reg_text}
use Rattle.names.proofs.Decimal.{decimal-long}
use Rattle.lines.proofs.Compare.{same-eq}
use Rattle.names.proofs.Equal.{front_of, same-front}
use Rattle.names.proofs.Texts.{reg-text-names}
use Rattle.words.specs.Inner.Runs.{run_len, run_hits_from, run_hits, hits_at, NextRun}
use Rattle.std.specs.declared.option.Option.TheVariants.{Some, None}
use Rattle.words.specs.Hits.{hit_here, hits_go, hits, one_hit, reg_hit, glue_left, glue_right, glued, replaced_at}
use Rattle.words.proofs.RunLaws.{run_length}
use Rattle.words.proofs.HitLaws.{hits-runs}

-- ---- what stands at a hit

every_append : {A : Type 0} (f : A → Bool) (xs ys : List A) → all f xs ≡ true → all f ys ≡ true → all f (xs ++ ys) ≡ true
every_append f [] ys p q = q
every_append f (x ∷ xs) ys p q = and_both (and_left (f x) (all f xs) p) (every_append f xs ys (and_right (f x) (all f xs) p) q)

module _ (p s : List ℕ) where
  one-here : (l : List ℕ) (i : ℕ) (b : Bool) → l ≡ drop i s → prefixed p l ≡ true → all (λ (j : ℕ). prefixed p (drop j s)) (hit_here p l i b) ≡ true
  one-here l i b e q = go (b || is_name (get_or l (length p) 0))
    where
      go : (t : Bool) → all (λ (j : ℕ). prefixed p (drop j s)) (cond t [] (i ∷ [])) ≡ true
      go true = refl
      go false = and_both (ap (prefixed p) (sym e) ∙ q) refl

  -- p stands at each hit
  at-hits : (l : List ℕ) (k i : ℕ) (b : Bool) → l ≡ drop i s → all (λ (j : ℕ). prefixed p (drop j s)) (hits_go l p k i b) ≡ true
  unfolding hits_go
  at-hits [] k i b e = refl
  at-hits (x ∷ xs) zero i b e = go (prefixed p (x ∷ xs)) refl (λ k. at-hits xs k (suc i) (is_name x) (ap (drop 1) e ∙ drop-drop 1 i s ∙ ap (λ (n : ℕ). drop n s) (add-one i)))
    where
      go : (t : Bool) → prefixed p (x ∷ xs) ≡ t → ((k : ℕ) → all (λ (j : ℕ). prefixed p (drop j s)) (hits_go xs p k (suc i) (is_name x)) ≡ true) →
          all (λ (j : ℕ). prefixed p (drop j s)) (cond t (hit_here p (x ∷ xs) i b ++ hits_go xs p (length p - 1) (suc i) (is_name x)) (hits_go xs p 0 (suc i) (is_name x))) ≡ true
      go true q f = every_append (λ (j : ℕ). prefixed p (drop j s)) (hit_here p (x ∷ xs) i b) (hits_go xs p (length p - 1) (suc i) (is_name x)) (one-here (x ∷ xs) i b e q) (f (length p - 1))
      go false q f = f 0
  at-hits (x ∷ xs) (suc k) i b e = at-hits xs k (suc i) (is_name x) (ap (drop 1) e ∙ drop-drop 1 i s ∙ ap (λ (n : ℕ). drop n s) (add-one i))

one-is : (n : ℕ) (w : Span) (is : List ℕ) → one_hit n is ≡ Some w → (is ≡ w.from ∷ []) × (w.to ≡ w.from + n)
unfolding one_hit
one-is n w [] e = let z : ◌≡◌ {A = ℕ} 0 1 = cc in absurd (omega arith)
one-is n w (i ∷ []) e = let a : i ≡ w.from = cc in let b : i + n ≡ w.to = cc in (cc, omega arith)
one-is n w (i ∷ j ∷ is) e = let z : ◌≡◌ {A = ℕ} 0 1 = cc in absurd (omega arith)

front-le : (p l : List ℕ) → prefixed p l ≡ true → length p ≤ length l
front-le p l h = omega (arith, ap length (front_of p l h), length-append p (drop (length p) l))

-- the one hit: from one place of the line to another, and the register's text between them
pub record Stands (v : ℕ) (l : List ℕ) (w : Span) : Type 0 where
  pub size : w.to ≡ w.from + length (reg_text v)
  pub inside : w.to ≤ length l
  pub text : part w.from w.to l ≡ reg_text v

pub hit-stands : (v : ℕ) (l : List ℕ) (w : Span) → reg_hit v l ≡ Some w → Stands v l w
unfolding reg_hit hits
hit-stands v l w e =
    let p : List ℕ = reg_text v in
    let o = one-is (length p) w (hits p l) e in
    let q : prefixed p (drop w.from l) ≡ true =
    and_left (prefixed p (drop w.from l)) true (rw o.0 at (at-hits p l l 0 0 false refl)) in
    let a = front-le p (drop w.from l) q in
    let d = length-drop w.from l in
    let n : w.to - w.from ≡ length p = omega (arith, o.1) in
    record {
      size = o.1;
      inside = omega (arith, o.1);
      text = ap (λ (n : ℕ). take n (drop w.from l)) n ∙ ap (take (length p)) (front_of p (drop w.from l) q) ∙ take-append_seam p (drop (length p) (drop w.from l));
    }

-- ---- the search by whole runs

-- whether a run is the register as it is printed
abbrev pub reg_run : ℕ → List ℕ → Bool
reg_run v r = same r (reg_text v)

-- no run that begins with another byte than `r` is one
pub reg-skips : (v x : ℕ) (c : List ℕ) → eqb x 114 ≡ false → reg_run v (x ∷ c) ≡ false
unfolding prefixed
reg-skips v x c e = same-front reg_word (x ∷ c) (decimal v) ∙ rw (eqb-sym 114 x, e)

module _ (v : ℕ) (s : List ℕ) (fits : v < 2 ^ 64) where
  -- the one hit by text is the one run
  pub hit-run : reg_hit v s ≡ one_hit (length (reg_text v)) (run_hits (reg_run v) s)
  unfolding reg_hit
  hit-run = ap (one_hit (length (reg_text v))) (hits-runs (reg_text v) (omega arith) (reg-text-names v fits) s)

  module _ {a : ℕ} (h : NextRun (reg_run v) s 0 a) where
    pub find_none : length s ≤ a → reg_hit v s ≡ None
    unfolding one_hit run_hits
    find_none l = hit-run ∙ ap (one_hit (length (reg_text v))) h.hits ∙ rw (le-ltb a (length s) l)

    module _ (l : a < length s) {e b : ℕ} (q : e ≡ a + run_len (drop a s)) (k : NextRun (reg_run v) s e b) where
      found : run_hits (reg_run v) s ≡ a ∷ hits_at (reg_run v) s b
      unfolding run_hits
      found = h.hits ∙ rw (lt-ltb a (length s) l) (ap (λ (n : ℕ). a ∷ run_hits_from (reg_run v) s n) (sym q) ∙ ap (λ (r : List ℕ). a ∷ r) k.hits)

      pub find-two : b < length s → reg_hit v s ≡ None
      unfolding one_hit
      find-two m = hit-run ∙ ap (one_hit (length (reg_text v))) found ∙ rw (lt-ltb b (length s) m)

      pub find-one : length s ≤ b → reg_hit v s ≡ Some (record { from = a; to = e })
      unfolding one_hit
      find-one m =
          let w : part a e s ≡ reg_text v = same-eq (part a e s) (reg_text v) (ap (λ (n : ℕ). reg_run v (part a n s)) q ∙ h.passes l) in
          let n : a ≤ length s = omega arith in
          let z : a + length (reg_text v) ≡ e = omega (arith, ap length w, run_length s a e n q) in
          hit-run ∙ ap (one_hit (length (reg_text v))) found ∙ rw (le-ltb b (length s) m) (ap (λ (n : ℕ). Some (record { from = a; to = n })) z)

-- ---- what a replacement makes

glued-le : (before rep after : List ℕ) → length (glued before rep after) ≤ length rep + 2
unfolding glued
glued-le before rep after = go (glue_left before rep || glue_right rep after)
  where
    go : (t : Bool) → length (cond t (40 ∷ rep ++ 41 ∷ []) rep) ≤ length rep + 2
    go true = omega (arith, length-append rep (41 ∷ []))
    go false = omega arith

-- what is replaced goes, and the replacement comes with two parentheses at most
pub replace-length : (from to : ℕ) (l rep : List ℕ) → from ≤ to → to ≤ length l → length (replaced_at from to l rep) + (to - from) ≤ length l + length rep + 2
unfolding replaced_at
replace-length from to l rep h k =
    omega (arith, length-append (take from l ++ glued (take from l) rep (drop to l)) (drop to l), length-append (take from l) (glued (take from l) rep (drop to l)), length-take from l, length-drop to l, glued-le (take from l) rep (drop to l))

-- a register's text has two bytes or more, so that the line grows by no more than the replacement
pub replace-hit : (v : ℕ) (l rep : List ℕ) (w : Span) → reg_hit v l ≡ Some w → length (replaced_at w.from w.to l rep) ≤ length l + length rep
replace-hit v l rep w e =
    let s = hit-stands v l w e in
    let d = decimal-long v in
    let n = s.size in
    omega (arith, replace-length w.from w.to l rep (omega arith) s.inside)

glued-lacks : (before rep after : List ℕ) → lacks 10 rep ≡ true → lacks 10 (glued before rep after) ≡ true
unfolding glued lacks
glued-lacks before rep after h = go (glue_left before rep || glue_right rep after)
  where
    go : (t : Bool) → lacks 10 (cond t (40 ∷ rep ++ 41 ∷ []) rep) ≡ true
    go true = lacks-append rep (41 ∷ []) h refl
    go false = h

-- no LF comes in
pub replace-lacks : (from to : ℕ) (l rep : List ℕ) → lacks 10 l ≡ true → lacks 10 rep ≡ true → lacks 10 (replaced_at from to l rep) ≡ true
unfolding replaced_at
replace-lacks from to l rep h k =
    lacks-append (take from l ++ glued (take from l) rep (drop to l)) (drop to l)
    (lacks-append (take from l) (glued (take from l) rep (drop to l)) (lacks-take from l h) (glued-lacks (take from l) rep (drop to l) k))
    (lacks-drop to l h)

-- the line around the one hit
pub around : (l : List ℕ) (v : ℕ) (w : Span) → Stands v l w → l ≡ take w.from l ++ (reg_text v ++ drop w.to l)
around l v w s =
    let n : w.from + (w.to - w.from) ≡ w.to = omega (arith, s.size) in
    let d : drop w.from l ≡ reg_text v ++ drop w.to l =
    sym (take-append-drop (w.to - w.from) (drop w.from l))
    ∙ ap (λ (x : List ℕ). x ++ drop (w.to - w.from) (drop w.from l)) s.text
    ∙ ap (λ (x : List ℕ). reg_text v ++ x) (drop-drop (w.to - w.from) w.from l ∙ ap (λ (k : ℕ). drop k l) n) in
    sym (take-append-drop w.from l) ∙ ap (λ (x : List ℕ). take w.from l ++ x) d
