-- Tables of moves and codes say what acts and fates say. Assumes nothing.
use Prim.Native.Nat.{ℕ, zero, suc, ◌+◌, ◌-◌, ◌≤◌, ◌<◌}
use mathlib.Core.Path.{◌≡◌, refl, ap, ◌∙◌}
use mathlib.Core.Bool.{Bool, true}
use mathlib.Core.List.{List, [], ◌∷◌}
use native.Mathlib.Omega.{arith}
use borrow.Author.Tests.{ne_eqb, lt-ltb, le-ltb, ltb-true}
use lib.Dec.{ltb}
use lib.ListN.{length, get_or, get_or-eq_default}
use Rattle.lines.proofs.Tests.{and_left, and_right}
use Rattle.lines.specs.Acts.{Act, keep, become, into, gone}
use Rattle.lines.specs.Lf.{all}
use Rattle.origins.specs.Fates.{Fate, at, held, lost, taken, fate_at, fates_go, onward, follow}
use Rattle.origins.specs.Inner.Codes.{far_move, move_of, moves_of, half, code_of, codes_of, taken_code, land_go, on_code, through, standing}
use Rattle.origins.proofs.FateLaws.{outs, under, Under, cons, under_at, fates-under, fates-length}

-- a line is not taken into itself, and not further down than a table tells
abbrev pub sound : Act → Bool
sound keep = true
sound (become x) = true
sound (into n) = ltb 0 n
sound gone = true

code_at : (fs : List Fate) (n : ℕ) → get_or (codes_of fs) n far_move ≡ code_of (fate_at fs n)
unfolding codes_of fate_at code_of
code_at [] n = refl
code_at (f ∷ fs) zero = refl
code_at (f ∷ fs) (suc n) = code_at fs n

code-taken : (f : Fate) → under half f → taken_code (code_of f) ≡ code_of (taken f)
unfolding taken_code code_of taken under
code-taken (at n) h = rw (lt-ltb n half h)
code-taken (held n) h = rw (le-ltb (half + n) half (omega arith))
code-taken lost h = refl

codes-length : (fs : List Fate) → length (codes_of fs) ≡ length fs
unfolding codes_of
codes-length [] = refl
codes-length (f ∷ fs) = ap suc (codes-length fs)

outs-le : (acts : List Act) → outs acts ≤ length acts
unfolding outs
outs-le [] = omega arith
outs-le (keep ∷ more) = let h = outs-le more in omega arith
outs-le (become x ∷ more) = let h = outs-le more in omega arith
outs-le (into n ∷ more) = let h = outs-le more in omega arith
outs-le (gone ∷ more) = let h = outs-le more in omega arith

-- a line that is taken into the n-th of those below it
land-into : (n : ℕ) (ms : List ℕ) (fs : List Fate) (o : ℕ) → 0 < n → Under half fs → land_go ms o ≡ codes_of fs → land_go (n ∷ ms) o ≡ codes_of (taken (fate_at (lost ∷ fs) n) ∷ fs)
unfolding land_go codes_of fate_at
land-into zero ms fs o q u e = absurd (omega arith)
land-into (suc n) ms fs o q u e =
    rw (ne_eqb (suc n) 0 (omega arith), e) (ap (λ (c : ℕ). c ∷ codes_of fs) (ap taken_code (code_at fs n) ∙ code-taken (fate_at fs n) (under_at half n fs u)))

-- and one that is gone
land-gone : (ms : List ℕ) (fs : List Fate) (o : ℕ) → length fs ≤ half → land_go ms o ≡ codes_of fs → land_go (far_move ∷ ms) o ≡ codes_of (lost ∷ fs)
unfolding land_go codes_of code_of taken_code
land-gone ms fs o h e =
    rw (e, get_or-eq_default (codes_of fs) far_move {n = 18446744073709551614} (omega (arith, codes-length fs)))

-- where a table of moves leads is where the acts lead
pub land-fates : (acts : List Act) (o : ℕ) → all sound acts ≡ true → o + length acts ≤ half → land_go (moves_of acts) o ≡ codes_of (fates_go acts o)
unfolding land_go moves_of move_of fates_go codes_of code_of
land-fates [] o s h = refl
land-fates (keep ∷ more) o s h = ap (λ (cs : List ℕ). o ∷ cs) (land-fates more (suc o) s (omega arith))
land-fates (become x ∷ more) o s h = ap (λ (cs : List ℕ). o ∷ cs) (land-fates more (suc o) s (omega arith))
land-fates (into n ∷ more) o s h =
    land-into n (moves_of more) (fates_go more o) o (ltb-true 0 n (and_left (ltb 0 n) (all sound more) s)) (fates-under more o half (omega (arith, outs-le more)))
    (land-fates more o (and_right (ltb 0 n) (all sound more) s) (omega arith))
land-fates (gone ∷ more) o s h = land-gone (moves_of more) (fates_go more o) o (omega (arith, fates-length more o)) (land-fates more o s (omega arith))

-- as many lines stand, by their moves, as come out
pub standing-outs : (acts : List Act) → all sound acts ≡ true → standing (moves_of acts) ≡ outs acts
unfolding standing moves_of move_of outs
standing-outs [] s = refl
standing-outs (keep ∷ more) s = ap suc (standing-outs more s)
standing-outs (become x ∷ more) s = ap suc (standing-outs more s)
standing-outs (into n ∷ more) s =
    rw (ne_eqb n 0 (omega (arith, ltb-true 0 n (and_left (ltb 0 n) (all sound more) s)))) (standing-outs more (and_right (ltb 0 n) (all sound more) s))
standing-outs (gone ∷ more) s = standing-outs more s

far-taken : taken_code far_move ≡ far_move
unfolding taken_code
far-taken = refl

-- going on through a table is following
on-code : (gs : List Fate) (f : Fate) → under half f → Under half gs → length gs < half → on_code (codes_of gs) (code_of f) ≡ code_of (onward gs f)
unfolding on_code code_of onward under
on-code gs (at n) u v h = rw (lt-ltb n half u) (code_at gs n)
on-code gs (held n) u v h =
    let q : (half + n) - half ≡ n = omega arith in
    rw (le-ltb (half + n) half (omega arith), q) (ap taken_code (code_at gs n) ∙ code-taken (fate_at gs n) (under_at half n gs v))
on-code gs lost u v h = rw (get_or-eq_default (codes_of gs) far_move {n = far_move - half} (omega (arith, codes-length gs))) far-taken

pub through-follow : (fs gs : List Fate) → Under half fs → Under half gs → length gs < half → through (codes_of fs) (codes_of gs) ≡ codes_of (follow fs gs)
unfolding through codes_of follow
through-follow [] gs u v h = refl
through-follow (f ∷ fs) gs (cons p u) v h =
    ap (λ (c : ℕ). c ∷ through (codes_of fs) (codes_of gs)) (on-code gs f p v h) ∙ ap (λ (cs : List ℕ). code_of (onward gs f) ∷ cs) (through-follow fs gs u v h)
