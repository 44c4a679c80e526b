-- Laws of the first step: the lines of a text, their number and their bytes. Assumes nothing.
use Rattle.std.proofs.Common.{◌≡◌, ℕ, suc, ◌+◌, ◌-◌, ◌<◌, ◌≤◌, Bool, true, false, cond, not, ◌&&◌, eqb, ltb, List, [], ◌∷◌, ◌++◌, length, get_or, drop, sym, refl, ap, ◌∙◌, append-nil, add-one, arith, length-append, drop_of_length-le, drop-cons, lt-ltb, eqb-true}
use Rattle.lines.proofs.Tests.{no, and-false, eqb-sym}
use Rattle.lines.proofs.LfLaws.{lines-first, lines-no_lf, lacks-cons}
use Rattle.lines.proofs.OutLaws.{Writing, writing_start, writing-as, writing-put, writing-room, writing-end}
use Rattle.lines.specs.Lf.{prefixed, ends_in, cut_on, lines_of, unlines}
use Rattle.lines.specs.Inner.Lf.{lacks, no_lf}
use Rattle.lines.specs.Inner.Out.{Wrote}
use Rattle.lines.specs.Steps.{drop_cr, split_lines}

-- ---- the last byte

-- what stands in front of a text does not change its end
pub ends_more : (b x : ℕ) (v : List ℕ) → 0 < length v → ends_in b (x ∷ v) ≡ ends_in b v
ends_more b x v h = let q : suc (length v) - 1 ≡ suc (length v - 1) = omega arith in ap (λ (k : ℕ). eqb (get_or (x ∷ v) k 0) b) q

-- the empty text ends in nothing
pub ends-none : (u : List ℕ) → length u ≡ 0 → ends_in 10 u ≡ false
ends-none [] h = refl
ends-none (x ∷ u) h = absurd (omega arith)

pub ends_some : (u : List ℕ) → ends_in 10 u ≡ true → 1 ≤ length u
ends_some [] h = no h
ends_some (x ∷ u) h = omega arith

-- the LF that a last line lacks
unfoldable pub missing_lf : List ℕ → List ℕ
missing_lf u = cond (ltb 0 (length u) && not (ends_in 10 u)) (10 ∷ []) []

pub missing-ended : (u : List ℕ) → ends_in 10 u ≡ true → missing_lf u ≡ []
unfolding missing_lf
missing-ended u h = rw (h, and-false (ltb 0 (length u)))

pub missing-empty : (u : List ℕ) → length u ≡ 0 → missing_lf u ≡ []
unfolding missing_lf
missing-empty [] h = refl
missing-empty (x ∷ u) h = absurd (omega arith)

pub missing-open : (u : List ℕ) → ends_in 10 u ≡ false → (length u ≡ 0 → ⊥) → missing_lf u ≡ 10 ∷ []
unfolding missing_lf
missing-open u h n = rw (h, lt-ltb 0 (length u) (omega arith))

missing-more : (x : ℕ) (v : List ℕ) → 0 < length v → missing_lf (x ∷ v) ≡ missing_lf v
unfolding missing_lf
missing-more x v h = rw (ends_more 10 x v h, lt-ltb 0 (length v) h, lt-ltb 0 (suc (length v)) (omega arith))

missing-le : (u : List ℕ) → length (missing_lf u) ≤ 1
unfolding missing_lf
missing-le u = go (ltb 0 (length u) && not (ends_in 10 u))
  where
    go : (t : Bool) → length {A = ℕ} (cond t (10 ∷ []) []) ≤ 1
    go true = omega arith
    go false = omega arith

-- ---- lines and their bytes

cut-text : (t : Bool) (x : ℕ) (l : List ℕ) (ls : List (List ℕ)) → eqb x 10 ≡ t → unlines (cut_on t x (l ∷ ls)) ≡ x ∷ unlines (l ∷ ls)
unfolding unlines cut_on
cut-text true x l ls e = ap (λ (y : ℕ). y ∷ unlines (l ∷ ls)) (sym (eqb-true x 10 e))
cut-text false x l ls e = refl

-- the lines of a text give its bytes, with the LF that a last line lacks
pub lines-text : (u : List ℕ) → unlines (lines_of u) ≡ u ++ missing_lf u
unfolding unlines lines_of
lines-text [] = sym (missing-empty [] refl)
lines-text (x ∷ []) = go (eqb x 10) refl
  where
    go : (t : Bool) → eqb x 10 ≡ t → unlines (cut_on t x []) ≡ x ∷ missing_lf (x ∷ [])
    go true e = rw (missing-ended (x ∷ []) e) (ap (λ (y : ℕ). y ∷ []) (sym (eqb-true x 10 e)))
    go false e = rw (missing-open (x ∷ []) e (omega arith))
lines-text (x ∷ y ∷ ys) =
    let h : 0 < length (y ∷ ys) = omega arith in
    let f = lines-first (y ∷ ys) h in
    ap (λ (ls : List (List ℕ)). unlines (cut_on (eqb x 10) x ls)) f
    ∙ cut-text (eqb x 10) x _ _ refl
    ∙ ap (λ (ls : List (List ℕ)). x ∷ unlines ls) (sym f)
    ∙ ap (λ (l : List ℕ). x ∷ l) (lines-text (y ∷ ys))
    ∙ ap (λ (l : List ℕ). x ∷ y ∷ ys ++ l) (sym (missing-more x (y ∷ ys) h))

-- ---- a CR before an LF

-- the rule of one byte: it goes, or it stays
pub drop-case : (x : ℕ) (xs : List ℕ) (t : Bool) → (eqb x 13 && prefixed (10 ∷ []) xs) ≡ t → drop_cr (x ∷ xs) ≡ cond t (drop_cr xs) (x ∷ drop_cr xs)
unfolding drop_cr
drop-case x xs t e = rw e

pub drop-one : (x : ℕ) → drop_cr (x ∷ []) ≡ x ∷ []
unfolding drop_cr prefixed
drop-one x = drop-case x [] false (and-false (eqb x 13))

-- without the CRs a text is empty exactly where it was
pub drop-some : (x : ℕ) (xs : List ℕ) → 0 < length (drop_cr (x ∷ xs))
drop-some x [] = rw (drop-one x) (omega arith)
drop-some x (y ∷ ys) = rw (drop-case x (y ∷ ys) _ refl) (go (eqb x 13 && prefixed (10 ∷ []) (y ∷ ys)) (drop-some y ys))
  where
    go : (t : Bool) → 0 < length (drop_cr (y ∷ ys)) → 0 < length (cond t (drop_cr (y ∷ ys)) (x ∷ drop_cr (y ∷ ys)))
    go true h = h
    go false h = omega arith

-- and ends in LF exactly where it did
pub drop-ended : (t : List ℕ) → ends_in 10 (drop_cr t) ≡ ends_in 10 t
unfolding drop_cr
drop-ended [] = refl
drop-ended (x ∷ []) = rw (drop-one x)
drop-ended (x ∷ y ∷ ys) = ap (ends_in 10) (drop-case x (y ∷ ys) _ refl) ∙ go (eqb x 13 && prefixed (10 ∷ []) (y ∷ ys)) (drop-some y ys) (drop-ended (y ∷ ys)) ∙ sym (ends_more 10 x (y ∷ ys) (omega arith))
  where
    go : (t : Bool) → 0 < length (drop_cr (y ∷ ys)) → ends_in 10 (drop_cr (y ∷ ys)) ≡ ends_in 10 (y ∷ ys) → ends_in 10 (cond t (drop_cr (y ∷ ys)) (x ∷ drop_cr (y ∷ ys))) ≡ ends_in 10 (y ∷ ys)
    go true h e = e
    go false h e = ends_more 10 x (drop_cr (y ∷ ys)) h ∙ e

drop-missing : (t : List ℕ) → missing_lf (drop_cr t) ≡ missing_lf t
unfolding missing_lf drop_cr
drop-missing [] = refl
drop-missing (x ∷ xs) = rw (drop-ended (x ∷ xs), lt-ltb 0 (length (drop_cr (x ∷ xs))) (drop-some x xs), lt-ltb 0 (suc (length xs)) (omega arith))

pub drop_le : (t : List ℕ) → length (drop_cr t) ≤ length t
unfolding drop_cr
drop_le [] = omega arith
drop_le (x ∷ xs) = rw (drop-case x xs _ refl) (go (eqb x 13 && prefixed (10 ∷ []) xs) (drop_le xs))
  where
    go : (t : Bool) → length (drop_cr xs) ≤ length xs → length (cond t (drop_cr xs) (x ∷ drop_cr xs)) ≤ suc (length xs)
    go true h = omega arith
    go false h = omega arith

-- the bytes of the first step
pub split_text : (t : List ℕ) → unlines (split_lines t) ≡ drop_cr t ++ missing_lf t
unfolding split_lines
split_text t = lines-text (drop_cr t) ∙ ap (λ (l : List ℕ). drop_cr t ++ l) (drop-missing t)

-- the same, by what a last line lacks
pub split_by : (t : List ℕ) {xs : List ℕ} → missing_lf t ≡ xs → drop_cr t ++ xs ≡ unlines (split_lines t)
split_by t e = sym (split_text t ∙ ap (λ (l : List ℕ). drop_cr t ++ l) e)

pub split-whole : (t : List ℕ) → missing_lf t ≡ [] → drop_cr t ≡ unlines (split_lines t)
split-whole t e = sym (append-nil (drop_cr t)) ∙ split_by t e

-- no line of it holds an LF
pub split-no_lf : (t : List ℕ) → no_lf (split_lines t) ≡ true
unfolding split_lines
split-no_lf t = lines-no_lf (drop_cr t)

-- the room that the first step takes
pub split-room : (t : List ℕ) → length (unlines (split_lines t)) ≤ suc (length t)
split-room t = omega (arith, ap length (split_text t), length-append (drop_cr t) (missing_lf t), drop_le t, missing-le t)

-- where the text has no CR nothing goes
pub drop-none : (t : List ℕ) → lacks 13 t ≡ true → drop_cr t ≡ t
unfolding drop_cr
drop-none [] h = refl
drop-none (x ∷ xs) h =
    let l = lacks-cons 13 x xs h in
    drop-case x xs false (ap (λ (q : Bool). q && prefixed (10 ∷ []) xs) l.0) ∙ ap (λ (r : List ℕ). x ∷ r) (drop-none xs l.1)

-- ---- the loop of `put_bytes`

-- what is still to be written, from the place i on
abbrev pub Splitting : List ℕ → ℕ → List ℕ → List ℕ → ℕ → Type 0
Splitting t i d₀ d o = Writing 0 (drop_cr t) (drop_cr (drop i t)) d₀ d o

pub splitting-start : (t d : List ℕ) → length (drop_cr t) ≤ length d → Splitting t 0 d d 0
splitting-start t d h = writing_start 0 (drop_cr t) d (omega arith)

-- at a byte: a CR before an LF goes, and any other byte is written
drop_at : (t : List ℕ) (i : ℕ) (b : Bool) → i < length t → prefixed (13 ∷ 10 ∷ []) (drop i t) ≡ b → drop_cr (drop i t) ≡ cond b (drop_cr (drop (i + 1) t)) (get_or t i 0 ∷ drop_cr (drop (i + 1) t))
unfolding prefixed
drop_at t i b h e =
    let c = drop-cons t i 0 h in
    rw (add-one i, c) (drop-case _ _ b (ap (λ (q : Bool). q && prefixed (10 ∷ []) (drop (suc i) t)) (eqb-sym (get_or t i 0) 13) ∙ sym (ap (prefixed (13 ∷ 10 ∷ [])) c) ∙ e))

module _ (t : List ℕ) (i : ℕ) {d₀ d : List ℕ} {o : ℕ} (w : Splitting t i d₀ d o) where
  pub splitting-cr : i < length t → prefixed (13 ∷ 10 ∷ []) (drop i t) ≡ true → Splitting t (i + 1) d₀ d o
  splitting-cr h e = writing-as (drop_at t i true h e) w

  splitting-byte : i < length t → prefixed (13 ∷ 10 ∷ []) (drop i t) ≡ false → Writing 0 (drop_cr t) (get_or t i 0 ∷ drop_cr (drop (i + 1) t)) d₀ d o
  splitting-byte h e = writing-as (drop_at t i false h e) w

  pub splitting-room : i < length t → prefixed (13 ∷ 10 ∷ []) (drop i t) ≡ false → o < length d
  splitting-room h e = omega (arith, writing-room (splitting-byte h e))

  pub splitting-put : {d' : List ℕ} {r : ℕ} → i < length t → prefixed (13 ∷ 10 ∷ []) (drop i t) ≡ false → Wrote d o (get_or t i 0 ∷ []) d' r → Splitting t (i + 1) d₀ d' r
  splitting-put h e v = writing-put (splitting-byte h e) v

  -- past the end nothing is left
  pub splitting-last : length t ≤ i → Wrote d₀ 0 (drop_cr t) d o
  unfolding drop_cr
  splitting-last h = writing-end (writing-as (ap drop_cr (drop_of_length-le t h)) w)
