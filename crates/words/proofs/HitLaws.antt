-- Searching by text and searching by whole runs agree. Assumes nothing.
use Prim.Native.Nat.{ℕ, zero, suc, ◌+◌, ◌-◌, ◌≤◌, ◌<◌}
use mathlib.Core.Path.{◌≡◌, refl, sym, ap, ◌∙◌}
use mathlib.Core.Bool.{Bool, true, false, cond, not}
use mathlib.Core.List.{List, [], ◌∷◌, ◌++◌}
use native.Mathlib.Omega.{arith}
use borrow.Author.Tests.{eqb-true, eqb-false}
use lib.Dec.{eqb}
use lib.ListN.{length, take, drop, get_or, length-drop, take-append-drop}
use lib.Seq.{length-take-le, take-append_seam}
use Rattle.lines.specs.Lf.{prefixed, same}
use Rattle.lines.proofs.Tests.{no, and_left, and_right}
use Rattle.text.specs.Class.{is_name}
use Rattle.names.specs.Names.{all_names}
use Rattle.lines.proofs.Compare.{same_refl}
use Rattle.names.proofs.Equal.{same_not, front-append, front_of}
use Rattle.words.specs.Inner.Runs.{words_of, up_by, run_len, walk_runs, place_by, run_hits}
use Rattle.words.specs.Hits.{hit_here, hits_go, hits}
use Rattle.words.proofs.RunLaws.{up_le, up_done, walk-off, walk-run, place-run, hits-count}

-- ---- inside a run and at its end

inside : (l : List ℕ) (j : ℕ) → j < run_len l → is_name (get_or l j 0) ≡ true
unfolding up_by
inside [] j h = absurd (omega arith)
inside (x ∷ xs) zero h = go (is_name x) h
  where
    go : (t : Bool) → 0 < cond (not t) 0 (suc (run_len xs)) → t ≡ true
    go true h = refl
    go false h = absurd (omega arith)
inside (x ∷ xs) (suc j) h = inside xs j (go (is_name x) h)
  where
    go : (t : Bool) → suc j < cond (not t) 0 (suc (run_len xs)) → j < run_len xs
    go true h = omega arith
    go false h = absurd (omega arith)

stops : (l : List ℕ) → is_name (get_or l (run_len l) 0) ≡ false
unfolding up_by
stops [] = refl
stops (x ∷ xs) = go (is_name x) refl (stops xs)
  where
    go : (t : Bool) → is_name x ≡ t → is_name (get_or xs (run_len xs) 0) ≡ false → is_name (get_or (x ∷ xs) (cond (not t) 0 (suc (run_len xs))) 0) ≡ false
    go true e h = h
    go false e h = e

-- name bytes in front are in the run
in-run : (p l : List ℕ) → all_names p ≡ true → prefixed p l ≡ true → length p ≤ run_len l
unfolding up_by prefixed
in-run [] l n h = omega arith
in-run (y ∷ p) [] n h = no h
in-run (y ∷ p) (x ∷ l) n h =
    let e = eqb-true y x (and_left (eqb y x) (prefixed p l) h) in
    let a : is_name x ≡ true = ap (λ (b : ℕ). is_name b) (sym e) ∙ and_left (is_name y) (all_names p) n in
    let r = in-run p l (and_right (is_name y) (all_names p) n) (and_right (eqb y x) (prefixed p l) h) in
    rw a (omega arith)

-- ---- the hits of a text p, a run of name bytes

module _ (p : List ℕ) (some : 0 < length p) (names : all_names p ≡ true) where
  off : (x : ℕ) (xs : List ℕ) → is_name x ≡ false → prefixed p (x ∷ xs) ≡ false
  unfolding up_by
  off x xs e = go (prefixed p (x ∷ xs)) refl
    where
      go : (u : Bool) → prefixed p (x ∷ xs) ≡ u → prefixed p (x ∷ xs) ≡ false
      go true q = let r = rw e at (in-run p (x ∷ xs) names q) in absurd (omega arith)
      go false q = q

  -- past a byte that is no name byte
  hits-off : (x : ℕ) (xs : List ℕ) (i : ℕ) (b : Bool) → is_name x ≡ false → hits_go (x ∷ xs) p 0 i b ≡ hits_go xs p 0 (suc i) false
  unfolding hits_go
  hits-off x xs i b e = rw (off x xs e, e)

  -- past the rest of a run: no hit begins there
  hits-in : (l : List ℕ) (k i : ℕ) → k ≤ run_len l → hits_go l p k i true ≡ hits_go (drop (run_len l) l) p 0 (i + run_len l) true
  unfolding hits_go up_by
  hits-in [] k i h = refl
  hits-in (x ∷ xs) zero i h = go (is_name x) refl (prefixed p (x ∷ xs)) refl (λ k h. hits-in xs k (suc i) h)
    where
      go : (t : Bool) → is_name x ≡ t → (u : Bool) → prefixed p (x ∷ xs) ≡ u →
          ((k : ℕ) → k ≤ run_len xs → hits_go xs p k (suc i) true ≡ hits_go (drop (run_len xs) xs) p 0 (suc i + run_len xs) true) →
          cond u (hits_go xs p (length p - 1) (suc i) t) (hits_go xs p 0 (suc i) t) ≡ hits_go (drop (cond (not t) 0 (suc (run_len xs))) (x ∷ xs)) p 0 (i + cond (not t) 0 (suc (run_len xs))) true
      go true e true q f =
          let r = rw e at (in-run p (x ∷ xs) names q) in
          let z : suc i + run_len xs ≡ i + suc (run_len xs) = omega arith in
          f (length p - 1) (omega arith) ∙ ap (λ (n : ℕ). hits_go (drop (run_len xs) xs) p 0 n true) z
      go true e false q f =
          let z : suc i + run_len xs ≡ i + suc (run_len xs) = omega arith in
          f 0 (omega arith) ∙ ap (λ (n : ℕ). hits_go (drop (run_len xs) xs) p 0 n true) z
      go false e true q f = no (sym (off x xs e) ∙ q)
      go false e false q f = let z : i ≡ i + 0 = omega arith in sym (hits-off x xs i true e) ∙ ap (λ (n : ℕ). hits_go (x ∷ xs) p 0 n true) z
  hits-in (x ∷ xs) (suc k) i h = go (is_name x) h (λ h. hits-in xs k (suc i) h)
    where
      go : (t : Bool) → suc k ≤ cond (not t) 0 (suc (run_len xs)) →
          (k ≤ run_len xs → hits_go xs p k (suc i) true ≡ hits_go (drop (run_len xs) xs) p 0 (suc i + run_len xs) true) →
          hits_go xs p k (suc i) t ≡ hits_go (drop (cond (not t) 0 (suc (run_len xs))) (x ∷ xs)) p 0 (i + cond (not t) 0 (suc (run_len xs))) true
      go true h f =
          let z : suc i + run_len xs ≡ i + suc (run_len xs) = omega arith in
          f (omega arith) ∙ ap (λ (n : ℕ). hits_go (drop (run_len xs) xs) p 0 n true) z
      go false h f = absurd (omega arith)

  -- a find at the front of a run is a hit where it is the whole run
  here : (l : List ℕ) (i : ℕ) → prefixed p l ≡ true → hit_here p l i false ≡ cond (same (take (run_len l) l) p) (i ∷ []) []
  here l i q = go (eqb (length p) (run_len l)) refl
    where
      go : (t : Bool) → eqb (length p) (run_len l) ≡ t → hit_here p l i false ≡ cond (same (take (run_len l) l) p) (i ∷ []) []
      go true e =
          let z : length p ≡ run_len l = eqb-true (length p) (run_len l) e in
          let a : is_name (get_or l (length p) 0) ≡ false = ap (λ (n : ℕ). is_name (get_or l n 0)) z ∙ stops l in
          let w : take (run_len l) l ≡ p = ap (λ (n : ℕ). take n l) (sym z) ∙ ap (take (length p)) (front_of p l q) ∙ take-append_seam p (drop (length p) l) in
          rw (a, w, same_refl p)
      go false e =
          let n : length p < run_len l = let y = eqb-false (length p) (run_len l) e in omega (arith, in-run p l names q) in
          let a = inside l (length p) n in
          let b : same (take (run_len l) l) p ≡ false = same_not (take (run_len l) l) p (λ w. omega (arith, ap length w, length-take-le (run_len l) l (up_le (λ (x : ℕ). not (is_name x)) l))) in
          rw (a, b)

  absent : (l : List ℕ) → prefixed p l ≡ false → same (take (run_len l) l) p ≡ false
  absent l q = same_not (take (run_len l) l) p (λ w. let z : prefixed p l ≡ true = ap (prefixed p) (sym (take-append-drop (run_len l) l) ∙ ap (λ (m : List ℕ). m ++ drop (run_len l) l) w) ∙ front-append p (drop (run_len l) l) in no (sym q ∙ z))

  hits-first : (x : ℕ) (xs : List ℕ) (i : ℕ) → is_name x ≡ true → (u : Bool) → prefixed p (x ∷ xs) ≡ u →
      hits_go (x ∷ xs) p 0 i false ≡ cond u (hit_here p (x ∷ xs) i false ++ hits_go xs p (length p - 1) (suc i) true) (hits_go xs p 0 (suc i) true)
  unfolding hits_go
  hits-first x xs i e u q = rw (q, e)

  -- where no run stands it is all the same what stands before
  pub hits-any : (l : List ℕ) (i : ℕ) → run_len l ≡ 0 → hits_go l p 0 i true ≡ hits_go l p 0 i false
  unfolding hits_go up_by
  hits-any [] i h = refl
  hits-any (x ∷ xs) i h = go (is_name x) refl h
    where
      go : (t : Bool) → is_name x ≡ t → cond (not t) 0 (suc (run_len xs)) ≡ 0 → hits_go (x ∷ xs) p 0 i true ≡ hits_go (x ∷ xs) p 0 i false
      go true e h = absurd (omega arith)
      go false e h = hits-off x xs i true e ∙ sym (hits-off x xs i false e)

  run-cons : (x : ℕ) (xs : List ℕ) → is_name x ≡ true → run_len (x ∷ xs) ≡ suc (run_len xs)
  unfolding up_by
  run-cons x xs e = rw e

  -- past a whole run
  hits-run : (x : ℕ) (xs : List ℕ) (i : ℕ) → is_name x ≡ true →
      hits_go (x ∷ xs) p 0 i false ≡ cond (same (take (run_len (x ∷ xs)) (x ∷ xs)) p) (i ∷ []) [] ++ hits_go (drop (run_len (x ∷ xs)) (x ∷ xs)) p 0 (i + run_len (x ∷ xs)) false
  hits-run x xs i e = go (prefixed p (x ∷ xs)) refl
    where
      c : run_len (x ∷ xs) ≡ suc (run_len xs)
      c = run-cons x xs e

      after : (k : ℕ) → k ≤ run_len xs → hits_go xs p k (suc i) true ≡ hits_go (drop (run_len (x ∷ xs)) (x ∷ xs)) p 0 (i + run_len (x ∷ xs)) false
      after k h =
          let z : suc i + run_len xs ≡ i + suc (run_len xs) = omega arith in
          hits-in xs k (suc i) h ∙ ap (λ (n : ℕ). hits_go (drop (run_len xs) xs) p 0 n true) z
          ∙ ap (λ (n : ℕ). hits_go (drop n (x ∷ xs)) p 0 (i + n) true) (sym c)
          ∙ hits-any (drop (run_len (x ∷ xs)) (x ∷ xs)) (i + run_len (x ∷ xs)) (up_done (λ (x : ℕ). not (is_name x)) (x ∷ xs))

      go : (u : Bool) → prefixed p (x ∷ xs) ≡ u →
          hits_go (x ∷ xs) p 0 i false ≡ cond (same (take (run_len (x ∷ xs)) (x ∷ xs)) p) (i ∷ []) [] ++ hits_go (drop (run_len (x ∷ xs)) (x ∷ xs)) p 0 (i + run_len (x ∷ xs)) false
      go true q =
          let r = in-run p (x ∷ xs) names q in
          hits-first x xs i e true q ∙ ap (λ (l : List ℕ). l ++ hits_go xs p (length p - 1) (suc i) true) (here (x ∷ xs) i q)
          ∙ ap (λ (l : List ℕ). cond (same (take (run_len (x ∷ xs)) (x ∷ xs)) p) (i ∷ []) [] ++ l) (after (length p - 1) (omega (arith, run-cons x xs e)))
      go false q = rw (absent (x ∷ xs) q) (hits-first x xs i e false q ∙ after 0 (omega arith))

  -- what a walk over the runs gives at a run
  walk-name : (x : ℕ) (xs : List ℕ) (i : ℕ) → is_name x ≡ true →
      walk_runs (place_by (λ (r : List ℕ). same r p)) (x ∷ xs) i [] ≡ cond (same (take (run_len (x ∷ xs)) (x ∷ xs)) p) (i ∷ []) [] ++ walk_runs (place_by (λ (r : List ℕ). same r p)) (drop (run_len (x ∷ xs)) (x ∷ xs)) (i + run_len (x ∷ xs)) []
  walk-name x xs i e =
      let f : List ℕ → Bool = λ (r : List ℕ). same r p in
      let k : ℕ = run_len (x ∷ xs) in
      let w : List ℕ = take k (x ∷ xs) in
      let n : length w ≡ k = length-take-le k (x ∷ xs) (up_le (λ (x : ℕ). not (is_name x)) (x ∷ xs)) in
      let d : i + k - length w ≡ i = omega arith in
      walk-run (place_by f) (λ (e : ℕ). refl) (x ∷ xs) i []
      ∙ ap (λ (l : List ℕ). l ++ walk_runs (place_by f) (drop k (x ∷ xs)) (i + k) []) (place-run f (i + k) w (omega (arith, run-cons x xs e)) ∙ ap (λ (n : ℕ). cond (f w) (n ∷ []) []) d)

  pub agree : (n : ℕ) (l : List ℕ) (i : ℕ) → length l ≤ n → hits_go l p 0 i false ≡ walk_runs (place_by (λ (r : List ℕ). same r p)) l i []
  unfolding hits_go walk_runs
  agree zero [] i h = refl
  agree zero (x ∷ xs) i h = absurd (omega arith)
  agree (suc n) [] i h = refl
  agree (suc n) (x ∷ xs) i h = go (is_name x) refl (λ l i h. agree n l i h)
    where
      go : (t : Bool) → is_name x ≡ t → ((l : List ℕ) (i : ℕ) → length l ≤ n → hits_go l p 0 i false ≡ walk_runs (place_by (λ (r : List ℕ). same r p)) l i []) →
          hits_go (x ∷ xs) p 0 i false ≡ walk_runs (place_by (λ (r : List ℕ). same r p)) (x ∷ xs) i []
      go true e f =
          let k : ℕ = run_len (x ∷ xs) in
          hits-run x xs i e
          ∙ ap (λ (l : List ℕ). cond (same (take k (x ∷ xs)) p) (i ∷ []) [] ++ l) (f (drop k (x ∷ xs)) (i + k) (omega (arith, run-cons x xs e, length-drop k (x ∷ xs))))
          ∙ sym (walk-name x xs i e)
      go false e f = hits-off x xs i false e ∙ f xs (suc i) (omega arith) ∙ sym (walk-off (place_by (λ (r : List ℕ). same r p)) (λ (e : ℕ). refl) x xs i e)

  -- the hits of p by text are the places of the runs that are p
  pub hits-runs : (l : List ℕ) → hits p l ≡ run_hits (λ (r : List ℕ). same r p) l
  unfolding hits run_hits
  hits-runs l = agree (length l) l 0 (omega arith)

  -- and they are as many
  pub hits-words : (l : List ℕ) → length (hits p l) ≡ words_of p l
  hits-words l = ap length (hits-runs l) ∙ hits-count (λ (r : List ℕ). same r p) l
