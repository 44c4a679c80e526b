-- Laws of acts and of the lines that they make. Assumes nothing.
use Rattle.std.proofs.Common.{◌≡◌, ℕ, ◌≤◌, Bool, true, false, List, [], ◌∷◌, ◌++◌, length, sym, refl, ap, ◌∙◌, append_assoc, arith, length-append}
use Rattle.lines.proofs.Tests.{no, and_left, and_right, and_both}
use Rattle.lines.proofs.LfLaws.{no_lf-append}
use Rattle.lines.specs.Acts.{Act, keep, become, into, gone, act, apply}
use Rattle.lines.specs.Lf.{unlines, all}
use Rattle.lines.specs.Inner.Lf.{lacks, no_lf}

-- acts on two runs of lines, one after the other
pub apply-append : (xs : List Act) (us : List (List ℕ)) (ys : List Act) (ts : List (List ℕ)) → length xs ≡ length us → apply (xs ++ ys) (us ++ ts) ≡ apply xs us ++ apply ys ts
unfolding apply
apply-append [] [] ys ts q = refl
apply-append [] (l ∷ us) ys ts q = absurd (omega arith)
apply-append (x ∷ xs) [] ys ts q = absurd (omega arith)
apply-append (x ∷ xs) (l ∷ us) ys ts q =
    ap (λ (r : List (List ℕ)). act x l ++ r) (apply-append xs us ys ts (omega arith)) ∙ sym (append_assoc (act x l) (apply xs us) (apply ys ts))

-- a line stays
abbrev pub keeps : Act → Bool
keeps keep = true
keeps (become x) = false
keeps (into n) = false
keeps gone = false

keep-line : (x : Act) (l : List ℕ) → keeps x ≡ true → act x l ≡ l ∷ []
unfolding act
keep-line keep l h = refl
keep-line (become x) l h = no h
keep-line (into n) l h = no h
keep-line gone l h = no h

-- where all line stays, the lines are what they were
pub apply-keep : (xs : List Act) (ls : List (List ℕ)) → length xs ≡ length ls → all keeps xs ≡ true → apply xs ls ≡ ls
unfolding apply
apply-keep [] [] q h = refl
apply-keep [] (l ∷ ls) q h = absurd (omega arith)
apply-keep (x ∷ xs) [] q h = absurd (omega arith)
apply-keep (x ∷ xs) (l ∷ ls) q h =
    ap (λ (r : List (List ℕ)). r ++ apply xs ls) (keep-line x l (and_left (keeps x) (all keeps xs) h))
    ∙ ap (λ (r : List (List ℕ)). l ∷ r) (apply-keep xs ls (omega arith) (and_right (keeps x) (all keeps xs) h))

act-length : (x : Act) (l : List ℕ) → length (act x l) ≤ 1
unfolding act
act-length keep l = omega arith
act-length (become x) l = omega arith
act-length (into n) l = omega arith
act-length gone l = omega arith

-- there are no more lines than before
pub apply-length : (xs : List Act) (ls : List (List ℕ)) → length (apply xs ls) ≤ length ls
unfolding apply
apply-length [] ls = omega arith
apply-length (x ∷ xs) [] = omega arith
apply-length (x ∷ xs) (l ∷ ls) = omega (arith, length-append (act x l) (apply xs ls), act-length x l, apply-length xs ls)

-- no LF comes in by an act
abbrev pub act_no_lf : Act → Bool
act_no_lf keep = true
act_no_lf (become x) = lacks 10 x
act_no_lf (into n) = true
act_no_lf gone = true

act-no_lf : (x : Act) (l : List ℕ) → act_no_lf x ≡ true → lacks 10 l ≡ true → no_lf (act x l) ≡ true
unfolding act no_lf
act-no_lf keep l p h = and_both h refl
act-no_lf (become x) l p h = and_both p refl
act-no_lf (into n) l p h = refl
act-no_lf gone l p h = refl

-- where no line had an LF and none comes in, no line has one
pub apply-no_lf : (xs : List Act) (ls : List (List ℕ)) → all act_no_lf xs ≡ true → no_lf ls ≡ true → no_lf (apply xs ls) ≡ true
unfolding apply no_lf
apply-no_lf [] ls p h = refl
apply-no_lf (x ∷ xs) [] p h = refl
apply-no_lf (x ∷ xs) (l ∷ ls) p h =
    no_lf-append (act x l) (apply xs ls) (act-no_lf x l (and_left (act_no_lf x) (all act_no_lf xs) p) (and_left (lacks 10 l) (no_lf ls) h))
    (apply-no_lf xs ls (and_right (act_no_lf x) (all act_no_lf xs) p) (and_right (lacks 10 l) (no_lf ls) h))

-- the bytes of two runs of lines, one after the other
pub unlines-append : (xs ys : List (List ℕ)) → unlines (xs ++ ys) ≡ unlines xs ++ unlines ys
unfolding unlines
unlines-append [] ys = refl
unlines-append (l ∷ xs) ys = ap (λ (r : List ℕ). l ++ 10 ∷ r) (unlines-append xs ys) ∙ sym (append_assoc l (10 ∷ unlines xs) (unlines ys))
