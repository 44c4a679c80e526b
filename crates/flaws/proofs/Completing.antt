-- A text with the flaw of a cut sequence is a well-formed text cut short: some bytes complete it. Assumes nothing.
use Prim.Native.Nat.{ℕ, zero, suc, ◌+◌, ◌≤◌}
use mathlib.Core.Path.{◌≡◌, refl, sym, ap, ◌∙◌}
use mathlib.Core.Bool.{Bool, true, false, cond, ◌&&◌, ◌||◌}
use mathlib.Core.List.{List, [], ◌∷◌, ◌++◌}
use native.Mathlib.Omega.{arith}
use borrow.Author.Tests.{leb-true}
use lib.Dec.{leb, ltb}
use lib.ListN.{length, drop}
use Rattle.lines.specs.Lf.{within}
use Rattle.lines.proofs.Tests.{no, and_left, and_right, and_both, is-in}
use Rattle.text.specs.Utf8Form.{begins, grammar, seq_by, seq_len, bad_or, scan, utf8_of, Utf8}
use Rattle.std.specs.declared.result.Result.TheVariants.{Ok, Err}
use Rattle.flaws.specs.declared.Flaw.{Flaw}
use Rattle.flaws.specs.declared.Flaw.TheVariants.{Other, Cut, Overlong, Outside}
use Rattle.flaws.specs.Flaws.{overlongs, outsides, any_begins, inside, any_inside, is_cut, flaw_of}
use Rattle.flaws.proofs.Cutting.{CutShort, whole, cut_at, front-valid, RowsTo, sames, shorts, rows, apart_by, none-long, cut-none, cut_inside, scan-by, bad-valid}

-- ---- a row completed

-- what completes a list inside a row: the least byte of each range that is left
abbrev fill : List (ℕ × ℕ) → List ℕ → List ℕ
fill [] l = []
fill (g ∷ gs) [] = g.0 ∷ fill gs []
fill (g ∷ gs) (x ∷ xs) = fill gs xs

-- no range is empty
abbrev sound : List (ℕ × ℕ) → Bool
sound [] = true
sound (g ∷ gs) = leb g.0 g.1 && sound gs

fill-all : (g : List (ℕ × ℕ)) → sound g ≡ true → begins g (fill g []) ≡ true
fill-all [] o = refl
fill-all (g ∷ gs) o =
    let h : g.0 ≤ g.1 = leb-true g.0 g.1 (and_left (leb g.0 g.1) (sound gs) o) in
    and_both (is-in g.0 g.1 g.0 (omega arith) h) (fill-all gs (and_right (leb g.0 g.1) (sound gs) o))

fill-len : (g : List (ℕ × ℕ)) → length (fill g []) ≡ length g
fill-len [] = refl
fill-len (g ∷ gs) = ap suc (fill-len gs)

fill_begins : (g : List (ℕ × ℕ)) (s : List ℕ) → sound g ≡ true → inside g s ≡ true → begins g (s ++ fill g s) ≡ true
fill_begins [] s o i = no i
fill_begins (g ∷ gs) [] o i = fill-all (g ∷ gs) o
fill_begins (g ∷ gs) (x ∷ xs) o i =
    and_both (and_left (within g.0 g.1 x) (inside gs xs) i) (fill_begins gs xs (and_right (leb g.0 g.1) (sound gs) o) (and_right (within g.0 g.1 x) (inside gs xs) i))

fill-length : (g : List (ℕ × ℕ)) (s : List ℕ) → inside g s ≡ true → length (s ++ fill g s) ≡ length g
fill-length [] s i = no i
fill-length (g ∷ gs) [] i = fill-len (g ∷ gs)
fill-length (g ∷ gs) (x ∷ xs) i = ap suc (fill-length gs xs (and_right (within g.0 g.1 x) (inside gs xs) i))

-- ---- no list begins as two rows

abbrev pub differ : List (ℕ × ℕ) → List (ℕ × ℕ) → Bool
differ [] h = false
differ (g ∷ gs) [] = false
differ (g ∷ gs) (h ∷ hs) = ltb g.1 h.0 || (ltb h.1 g.0 || differ gs hs)

abbrev pub differ_one : List (ℕ × ℕ) → List (List (ℕ × ℕ)) → Bool
differ_one g [] = true
differ_one g (h ∷ hs) = differ g h && differ_one g hs

differ-law : (g h : List (ℕ × ℕ)) (l : List ℕ) → differ g h ≡ true → begins g l ≡ true → begins h l ≡ false
differ-law [] h l d b = no d
differ-law (g ∷ gs) [] l d b = no d
differ-law (g ∷ gs) (h ∷ hs) [] d b = refl
differ-law (g ∷ gs) (h ∷ hs) (x ∷ xs) d b =
    apart_by g h gs hs x xs (ltb g.1 h.0) (ltb h.1 g.0) (differ gs hs) refl refl d (and_left (within g.0 g.1 x) (begins gs xs) b)
    (λ k. differ-law gs hs xs k (and_right (within g.0 g.1 x) (begins gs xs) b))

pub differ-none : (g : List (ℕ × ℕ)) (hs : List (List (ℕ × ℕ))) (l : List ℕ) → differ_one g hs ≡ true → begins g l ≡ true → any_begins hs l ≡ false
differ-none g [] l d b = refl
differ-none g (h ∷ hs) l d b =
    ap (λ (t : Bool). t || any_begins hs l) (differ-law g h l (and_left (differ g h) (differ_one g hs) d) b) ∙ differ-none g hs l (and_right (differ g h) (differ_one g hs) d) b

-- ---- the rows completed

abbrev fill_by : List (List (ℕ × ℕ)) → List ℕ → List ℕ
fill_by [] s = []
fill_by (g ∷ gs) s = cond (inside g s) (fill g s) (fill_by gs s)

abbrev proper : List (List (ℕ × ℕ)) → Bool
proper [] = true
proper (g ∷ gs) = sound g && (differ_one g gs && proper gs)

module _ (g : List (ℕ × ℕ)) (gs : List (List (ℕ × ℕ))) (x : ℕ) (xs : List ℕ) where
  first-not : (b : Bool) (r : List ℕ) → begins g (x ∷ xs ++ r) ≡ b → differ_one g gs ≡ true → seq_by gs (x ∷ xs ++ r) ≡ length (x ∷ xs ++ r) →
      cond b (length g) (seq_by gs (x ∷ xs ++ r)) ≡ length (x ∷ xs ++ r)
  first-not true r e d h =
      let z : seq_by gs (x ∷ xs ++ r) ≡ 0 = none-long gs (x ∷ xs ++ r) (differ-none g gs (x ∷ xs ++ r) d e) in
      absurd (omega (arith, z, h))
  first-not false r e d h = h

  full_by : (b : Bool) → inside g (x ∷ xs) ≡ b → sound g ≡ true → differ_one g gs ≡ true → (b || any_inside gs (x ∷ xs)) ≡ true →
      (any_inside gs (x ∷ xs) ≡ true → seq_by gs (x ∷ xs ++ fill_by gs (x ∷ xs)) ≡ length (x ∷ xs ++ fill_by gs (x ∷ xs))) →
      seq_by (g ∷ gs) (x ∷ xs ++ cond b (fill g (x ∷ xs)) (fill_by gs (x ∷ xs))) ≡ length (x ∷ xs ++ cond b (fill g (x ∷ xs)) (fill_by gs (x ∷ xs)))
  full_by true e o d i f =
      ap (λ (t : Bool). cond t (length g) (seq_by gs (x ∷ xs ++ fill g (x ∷ xs)))) (fill_begins g (x ∷ xs) o e) ∙ sym (fill-length g (x ∷ xs) e)
  full_by false e o d i f = first-not (begins g (x ∷ xs ++ fill_by gs (x ∷ xs))) (fill_by gs (x ∷ xs)) refl d (f i)

full : (gs : List (List (ℕ × ℕ))) (x : ℕ) (xs : List ℕ) → proper gs ≡ true → any_inside gs (x ∷ xs) ≡ true →
    seq_by gs (x ∷ xs ++ fill_by gs (x ∷ xs)) ≡ length (x ∷ xs ++ fill_by gs (x ∷ xs))
full [] x xs p i = no i
full (g ∷ gs) x xs p i =
    let q : (differ_one g gs && proper gs) ≡ true = and_right (sound g) (differ_one g gs && proper gs) p in
    full_by g gs x xs (inside g (x ∷ xs)) refl (and_left (sound g) (differ_one g gs && proper gs) p) (and_left (differ_one g gs) (proper gs) q) i
    (full gs x xs (and_right (differ_one g gs) (proper gs) q))

cut-full : (x : ℕ) (xs : List ℕ) → is_cut (x ∷ xs) ≡ true → seq_len (x ∷ xs ++ fill_by grammar (x ∷ xs)) ≡ suc (length (xs ++ fill_by grammar (x ∷ xs)))
unfolding seq_len
cut-full x xs h = full grammar x xs refl (cut_inside (x ∷ xs) h)

-- ---- the scan

-- a sequence that takes all that is left
scan-out : (k i : ℕ) (l : List ℕ) → length l ≤ k → scan k i l ≡ Ok tt
unfolding scan
scan-out k i [] h = refl
scan-out zero i (x ∷ xs) h = absurd (omega arith)
scan-out (suc k) i (x ∷ xs) h = scan-out k (suc i) xs (omega arith)

place_in : ℕ → Utf8 → ℕ
place_in d (Ok tt) = d
place_in d (Err j) = j

bad-same : (i j : ℕ) → ◌≡◌ {A = Utf8} (Err i) (Err j) → i ≡ j
unfolding place_in
bad-same i j e = ap (place_in i) e

valid-bad : {A : Type 0} (i : ℕ) → ◌≡◌ {A = Utf8} (Ok tt) (Err i) → A
valid-bad i e = bad-valid i (sym e)

-- the bad place is in the list
scan-ge : (k i : ℕ) (s : List ℕ) (m : ℕ) → scan k i s ≡ Err m → i ≤ m
unfolding scan
scan-ge k i [] m e = valid-bad m e
scan-ge (suc k) i (x ∷ xs) m e = let z = scan-ge k (suc i) xs m e in omega arith
scan-ge zero i (x ∷ xs) m e = go (seq_len (x ∷ xs)) e (λ k. scan-ge k (suc i) xs m)
  where
    go : (n : ℕ) → bad_or n i (λ k. scan k (suc i) xs) ≡ Err m → ((k : ℕ) → scan k (suc i) xs ≡ Err m → suc i ≤ m) → i ≤ m
    go zero h f = let z = bad-same i m h in omega (arith, z)
    go (suc k) h f = let z = f k h in omega arith

-- bytes that make the rest well-formed
abbrev Completed : ℕ → ℕ → List ℕ → Type 0
Completed k i s = (r : List ℕ) × (scan k i (s ++ r) ≡ Ok tt)

module _ (i x : ℕ) (xs : List ℕ) (m : ℕ) where
  done-rows : (k : ℕ) (r : List ℕ) → seq_len (x ∷ xs) ≡ suc k → RowsTo grammar (x ∷ xs) r → seq_len (x ∷ xs ++ r) ≡ suc k
  unfolding seq_len
  done-rows k r e (sames h) = h ∙ e
  done-rows k r e (shorts h) = let z : seq_len (x ∷ xs) ≡ 0 = cut-none (x ∷ xs) h in absurd (omega (arith, z, e))

  done_on : (k : ℕ) → seq_len (x ∷ xs) ≡ suc k → Completed k (suc i) xs → Completed 0 i (x ∷ xs)
  done_on k e (r, h) = (r, scan-by i x (xs ++ r) (suc k) (done-rows k r e (rows grammar (x ∷ xs) r)) ∙ h)

  done-seq : (n j : ℕ) → seq_len (x ∷ xs) ≡ n → m ≡ i + j → scan 0 i (x ∷ xs) ≡ Err m → is_cut (drop j (x ∷ xs)) ≡ true →
      ((k j : ℕ) → m ≡ suc i + j → scan k (suc i) xs ≡ Err m → is_cut (drop j xs) ≡ true → Completed k (suc i) xs) → Completed 0 i (x ∷ xs)
  done-seq zero zero e q h c f = (
    fill_by grammar (x ∷ xs),
    scan-by i x (xs ++ fill_by grammar (x ∷ xs)) (suc (length (xs ++ fill_by grammar (x ∷ xs)))) (cut-full x xs c)
        ∙ scan-out (length (xs ++ fill_by grammar (x ∷ xs))) (suc i) (xs ++ fill_by grammar (x ∷ xs)) (omega arith),
  )
  done-seq zero (suc j) e q h c f = let z = bad-same i m (sym (scan-by i x xs zero e) ∙ h) in absurd (omega (arith, z, q))
  done-seq (suc k) zero e q h c f = let z = scan-ge k (suc i) xs m (sym (scan-by i x xs (suc k) e) ∙ h) in absurd (omega (arith, z, q))
  done-seq (suc k) (suc j) e q h c f = done_on k e (f k j (omega (arith, q)) (sym (scan-by i x xs (suc k) e) ∙ h) c)

done : (k i : ℕ) (s : List ℕ) (m j : ℕ) → m ≡ i + j → scan k i s ≡ Err m → is_cut (drop j s) ≡ true → Completed k i s
unfolding scan
done k i [] m j q h c = valid-bad m h
done (suc k) i (x ∷ xs) m zero q h c = let z = scan-ge k (suc i) xs m h in absurd (omega (arith, z, q))
done (suc k) i (x ∷ xs) m (suc j) q h c = done k (suc i) xs m j (omega (arith, q)) h c
done zero i (x ∷ xs) m j q h c = done-seq i x xs m (seq_len (x ∷ xs)) j refl q h c (λ k j' q' h' c'. done k (suc i) xs m j' q' h' c')

-- ---- the law

is_cut_flaw : Flaw → Bool
is_cut_flaw Other = false
is_cut_flaw Cut = true
is_cut_flaw Overlong = false
is_cut_flaw Outside = false

-- the flaw says that the rest is the proper start of a sequence
pub flaw-is-cut : (l : List ℕ) → flaw_of l ≡ Cut → is_cut l ≡ true
unfolding flaw_of is_cut_flaw
flaw-is-cut l e = go (any_begins overlongs l) (any_begins outsides l) (is_cut l) (ap is_cut_flaw e)
  where
    go : (a b c : Bool) → is_cut_flaw (cond a Overlong (cond b Outside (cond c Cut Other))) ≡ true → c ≡ true
    go true b c h = no h
    go false true c h = no h
    go false false true h = refl
    go false false false h = no h

-- where a text is bad and the flaw is a cut sequence, some bytes behind it make it well-formed
pub cut-whole : (s : List ℕ) (i : ℕ) → utf8_of s ≡ Err i → flaw_of (drop i s) ≡ Cut → (r : List ℕ) × (utf8_of (s ++ r) ≡ Ok tt)
unfolding utf8_of
cut-whole s i h f = done 0 0 s i i (omega arith) h (flaw-is-cut (drop i s) f)

-- and where some bytes behind a bad text make it well-formed, the flaw is that
pub cut-only : (s r : List ℕ) (i : ℕ) → utf8_of s ≡ Err i → utf8_of (s ++ r) ≡ Ok tt → flaw_of (drop i s) ≡ Cut
cut-only s r i h v = go (front-valid s r v)
  where
    go : CutShort s → flaw_of (drop i s) ≡ Cut
    go (whole w) = valid-bad i (sym w ∙ h)
    go (cut_at j b c f) = ap (λ (n : ℕ). flaw_of (drop n s)) (bad-same i j (sym h ∙ b)) ∙ f
