-- Laws of texts in which no digit stands after a `t`: they store no temp, and stay as they are. Assumes nothing.
use Rattle.std.proofs.Common.{◌≡◌, ℕ, zero, suc, ◌+◌, ◌-◌, ◌<◌, ◌≤◌, Bool, true, false, not, ◌&&◌, ◌||◌, eqb, ltb, List, [], ◌∷◌, length, get_or, take, drop, replicate, sym, refl, ap, ◌∙◌, add-one, arith, length-drop, get_or-drop, drop-cons}
use borrow.Author.Tests.{not-true}
use Rattle.lines.specs.Lf.{up_to, lines_of, unlines, prefixed, all}
use Rattle.lines.proofs.Tests.{no, or-false, and-false, and_left, and_right}
use Rattle.text.specs.Trim.{from_of, to_of, trim_start, trim_of}
use Rattle.names.specs.Names.{is_digit, all_digits, is_temp}
use Rattle.reading.specs.Reading.{Reading}
use Rattle.reading.specs.Assign.{unended, is_assign, left_of}
use Rattle.lines.specs.Inner.Out.{Wrote}
use Rattle.lines.proofs.Lacking.{lines-lack}
use Rattle.lines.proofs.ActLaws.{keeps, apply-keep}
use Rattle.origins.specs.Inner.Codes.{moves_of}
use Rattle.origins.proofs.Notes.{stay-moves}
use Rattle.slots.proofs.GatherLaws.{least-new, least-old}
use Rattle.temps.specs.Temps.{temp_act, temp_acts, prune_dead_temps_acts, prune_dead_temps}
use Rattle.temps.specs.Inner.Scratch.{temp_in, scratch_line, temp_scratch}
use Rattle.temps.proofs.PassLaws.{temps-length}

-- ---- parts of a text

or_off : (a b : Bool) → a || b ≡ false → (a ≡ false) × (b ≡ false)
or_off true b h = no (sym h)
or_off false b h = (refl, h)

-- a digit after a `t` at the front
abbrev front : ℕ → List ℕ → Bool
front x s = eqb 116 x && is_digit (get_or s 0 0)

lack-front : (x : ℕ) (s : List ℕ) → temp_in (x ∷ s) ≡ false → front x s ≡ false
unfolding temp_in
lack-front x s h = (or_off (front x s) (temp_in s) h).0

lack-rest : (x : ℕ) (s : List ℕ) → temp_in (x ∷ s) ≡ false → temp_in s ≡ false
unfolding temp_in
lack-rest x s h = (or_off (front x s) (temp_in s) h).1

lack-drop : (n : ℕ) (s : List ℕ) → temp_in s ≡ false → temp_in (drop n s) ≡ false
lack-drop zero s h = h
lack-drop (suc n) [] h = h
lack-drop (suc n) (x ∷ s) h = lack-drop n s (lack-rest x s h)

front-take : (x : ℕ) (s : List ℕ) (n : ℕ) → front x s ≡ false → front x (take n s) ≡ false
front-take x s zero h = and-false (eqb 116 x)
front-take x [] (suc n) h = h
front-take x (y ∷ s) (suc n) h = h

lack-take : (n : ℕ) (s : List ℕ) → temp_in s ≡ false → temp_in (take n s) ≡ false
unfolding temp_in
lack-take zero s h = refl
lack-take (suc n) [] h = refl
lack-take (suc n) (x ∷ s) h = rw (front-take x s n (lack-front x s h)) (lack-take n s (lack-rest x s h))

lack-trim : (s : List ℕ) → temp_in s ≡ false → temp_in (trim_of s) ≡ false
unfolding trim_of
lack-trim s h = lack-take (to_of (trim_start s)) (trim_start s) (lack-drop (from_of s) s h)

-- ---- no temp is named

temp-lack : (s : List ℕ) → temp_in s ≡ false → is_temp s ≡ false
unfolding is_temp prefixed
temp-lack [] h = refl
temp-lack (x ∷ []) h = and-false (eqb 116 x && true)
temp-lack (x ∷ y ∷ s) h = go (eqb 116 x) (is_digit y) (ltb 1 (length (x ∷ y ∷ s))) (lack-front x (y ∷ s) h)
  where
    go : (a b k : Bool) → a && b ≡ false → (a && true) && (k && (b && all_digits s)) ≡ false
    go true true k e = no (sym e)
    go true false k e = and-false k
    go false b k e = refl

left-lack : (l : List ℕ) → temp_in l ≡ false → is_temp (left_of (trim_of l)) ≡ false
unfolding left_of
left-lack l h =
    let t : List ℕ = trim_of l in
    temp-lack (left_of t) (lack-trim (take (up_to 61 (unended t)) (unended t)) (lack-take (up_to 61 (unended t)) (unended t) (lack-take (length t - 1) t (lack-trim l h))))

-- ---- a text stays as it is

keep-acts : (R : Reading) (ls ms : List (List ℕ)) → all (λ (l : List ℕ). not (temp_in l)) ms ≡ true → all keeps (temp_acts R ls ms) ≡ true
unfolding temp_acts temp_act
keep-acts R ls [] h = refl
keep-acts R ls (m ∷ ms) h =
    rw (left-lack m (not-true _ (and_left (not (temp_in m)) _ h)), and-false (is_assign (trim_of m))) (keep-acts R ls ms (and_right (not (temp_in m)) _ h))

keep-scratch : (k : Bool) (ms : List (List ℕ)) (d : List ℕ) → all (λ (l : List ℕ). not (temp_in l)) ms ≡ true → temp_scratch k ms d ≡ d
unfolding temp_scratch scratch_line
keep-scratch k [] d h = refl
keep-scratch k (m ∷ ms) d h =
    rw (left-lack m (not-true _ (and_left (not (temp_in m)) _ h)), and-false (is_assign (trim_of m))) (keep-scratch k ms d (and_right (not (temp_in m)) _ h))

module _ (t : List ℕ) (h : temp_in t ≡ false) where
  pub keeps-all : (R : Reading) → all keeps (prune_dead_temps_acts R (lines_of t)) ≡ true
  unfolding prune_dead_temps_acts
  keeps-all R = keep-acts R (lines_of t) (lines_of t) (lines-lack temp_in lack-rest lack-take t h)

  pub lack-text : (R : Reading) → unlines (lines_of t) ≡ unlines (prune_dead_temps R (lines_of t))
  unfolding prune_dead_temps
  lack-text R = sym (ap unlines (apply-keep (prune_dead_temps_acts R (lines_of t)) (lines_of t) (temps-length R (lines_of t)) (keeps-all R)))

  -- and none of its lines moves
  pub lack-moves : (R : Reading) {d d' : List ℕ} {r : ℕ} → Wrote d 0 (replicate (length (lines_of t)) 0) d' r → Wrote d 0 (moves_of (prune_dead_temps_acts R (lines_of t))) d' (length (lines_of t))
  lack-moves R w = stay-moves (prune_dead_temps_acts R (lines_of t)) (length (lines_of t)) (temps-length R (lines_of t)) (keeps-all R) w

  pub lack-scratch : (k : Bool) (d : List ℕ) → d ≡ temp_scratch k (lines_of t) d
  lack-scratch k d = sym (keep-scratch k (lines_of t) d (lines-lack temp_in lack-rest lack-take t h))

-- ---- the search: m is the least of what was seen of a text, and x what is seen at its place i

module _ (s : List ℕ) (i m : ℕ) where
  module _ (x : ℕ) (h : i < length s) (e : ltb x 10 ≡ eqb 116 (get_or s i 0) && is_digit (get_or s (i + 1) 0)) where
    seen_here : temp_in (drop i s) ≡ ltb x 10 || temp_in (drop (i + 1) s)
    unfolding temp_in
    seen_here = let o : suc i + 0 ≡ suc i = omega arith in rw (e, add-one i, drop-cons s i 0 h, get_or-drop (suc i) s 0 0, o)

    pub seen-new : x < m → ltb x 10 || temp_in (drop (i + 1) s) ≡ ltb m 10 || temp_in (drop i s)
    seen-new l = sym (ap (λ (b : Bool). ltb m 10 || b) seen_here ∙ least-new x m (temp_in (drop (i + 1) s)) l)

    pub seen-old : m ≤ x → ltb m 10 || temp_in (drop (i + 1) s) ≡ ltb m 10 || temp_in (drop i s)
    seen-old l = sym (ap (λ (b : Bool). ltb m 10 || b) seen_here ∙ least-old x m (temp_in (drop (i + 1) s)) l)

  -- one byte is too few
  pub seen_none : length s ≤ i + 1 → temp_in (drop i s) ≡ false
  unfolding temp_in
  seen_none h = let l = length-drop i s in go (drop i s) (omega (arith, l, h))
    where
      go : (s : List ℕ) → length s ≤ 1 → temp_in s ≡ false
      go [] k = refl
      go (a ∷ []) k = simp (and-false)
      go (a ∷ b ∷ s) k = absurd (omega (arith, k))

  pub seen_end : length s ≤ i + 1 → ltb m 10 ≡ ltb m 10 || temp_in (drop i s)
  seen_end h = sym (ap (λ (b : Bool). ltb m 10 || b) (seen_none h) ∙ or-false (ltb m 10))
