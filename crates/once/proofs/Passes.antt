-- The pass: what its steps leave, that no LF comes into a line, and that there are never more lines. Assumes nothing.
use Prim.Native.Nat.{ℕ, ◌-◌, ◌≤◌}
use mathlib.Core.Path.{◌≡◌, refl, sym, ap, ◌∙◌}
use mathlib.Core.Bool.{true, false}
use mathlib.Core.List.{List, []}
use native.Mathlib.Omega.{arith}
use lib.ListN.{length, take, drop, length-append}
use Rattle.lines.specs.Lf.{part, lines_of, unlines}
use Rattle.lines.specs.Inner.Lf.{no_lf}
use Rattle.lines.specs.Acts.{Act, apply}
use Rattle.lines.specs.Inner.Out.{Wrote}
use Rattle.lines.proofs.LfLaws.{lines-unlines, lines-no_lf}
use Rattle.lines.proofs.ActLaws.{apply-length}
use Rattle.lines.proofs.OutLaws.{wrote-part}
use Rattle.place.specs.Inner.Fill.{Filled, flags_of}
use Rattle.place.specs.Paths.{block_paths, tops}
use Rattle.place.specs.Loops.{inside_loop}
use Rattle.place.proofs.Fills.{filled-as, filled-take}
use Rattle.decls.specs.Decls.{prune_decls, prune_decls_acts}
use Rattle.decls.proofs.Keeps as decls
use Rattle.reading.specs.Reading.{Reading}
use Rattle.once.specs.Once.{once_acts, optimize_once}
use Rattle.once.specs.Inner.Tables.{acts_by, marks_of, once_marks}
use Rattle.once.proofs.Fills.{marks-of, acts-of, marks-length}
use Rattle.once.proofs.Keeps.{acts-no_lf}

-- ---- the first part of a table or of a buffer

pub filled-part : {d xs d' : List ℕ} {r : ℕ} → Filled d xs d' r → part 0 r d' ≡ xs
filled-part {d} {xs} {d'} {r} f = let z : r - 0 ≡ r = omega arith in ap (λ (n : ℕ). take n d') z ∙ filled-take f

pub wrote-first : {d xs d' : List ℕ} {r : ℕ} → Wrote d 0 xs d' r → part 0 r d' ≡ xs
wrote-first {d} {xs} {d'} {r} w = let z : r - 0 ≡ r = omega arith in ap (λ (n : ℕ). take n d') z ∙ wrote-part w

pub filled-to : {d xs d' : List ℕ} {r : ℕ} → Filled d xs d' r → Filled d xs d' (length xs)
filled-to {d} {xs} {d'} {r} f = record { place = refl; holds = f.holds }

pub filled-le : {d xs d' : List ℕ} {r : ℕ} → Filled d xs d' r → r ≤ length d'
filled-le {d} {xs} {d'} {r} f = omega (arith, f.place, ap length f.holds, length-append xs (drop (length xs) d))

-- a buffer that is as it was left
pub wrote-same : {d xs d' d'' : List ℕ} {o r : ℕ} → d'' ≡ d' → Wrote d o xs d' r → Wrote d o xs d'' r
wrote-same {d} {xs} {d'} {d''} {o} {r} e w = record { fits = w.fits; place = w.place; holds = e ∙ w.holds }

pub wrote-to : {d xs d' : List ℕ} {r : ℕ} → Wrote d 0 xs d' r → Wrote d 0 xs d' (length xs)
wrote-to {d} {xs} {d'} {r} w = record { fits = w.fits; place = omega arith; holds = w.holds }

-- ---- the marks, from the tables as they were filled

pub marks-filled : (R : Reading) (ls : List (List ℕ)) {ps fs d d' : List ℕ} {r : ℕ} → ps ≡ tops (block_paths ls) → fs ≡ flags_of (inside_loop ls) →
    Filled d (marks_of R ls ps fs) d' r → Filled d (once_marks R ls) d' r
marks-filled R ls {ps} {fs} p q f = filled-as (ap (λ (x : List ℕ). marks_of R ls x fs) p ∙ ap (marks_of R ls (tops (block_paths ls))) q ∙ marks-of R ls) f

pub marks-many : (R : Reading) (ls : List (List ℕ)) {d d' : List ℕ} {r : ℕ} → Filled d (once_marks R ls) d' r → r ≡ length ls
marks-many R ls f = f.place ∙ ap length (sym (marks-of R ls)) ∙ marks-length R ls (tops (block_paths ls)) (flags_of (inside_loop ls))

-- ---- the acts, from the marks

pub acts-text : (R : Reading) (ls : List (List ℕ)) {ms : List ℕ} → ms ≡ once_marks R ls → unlines (apply (acts_by ls ms false []) ls) ≡ unlines (apply (once_acts R ls) ls)
acts-text R ls {ms} e = ap (λ (x : List ℕ). unlines (apply (acts_by ls x false []) ls)) e ∙ ap (λ (xs : List Act). unlines (apply xs ls)) (acts-of R ls)

-- ---- the whole

-- no LF comes into a line
pub once-no_lf : (R : Reading) (ls : List (List ℕ)) → no_lf ls ≡ true → no_lf (optimize_once R ls) ≡ true
unfolding optimize_once
once-no_lf R ls h = decls.keeps-no_lf (apply (once_acts R ls) ls) (acts-no_lf R ls h)

-- what is written, read again, is the lines of the definition
pub once-reads : (R : Reading) (t : List ℕ) → lines_of (unlines (optimize_once R (lines_of t))) ≡ optimize_once R (lines_of t)
once-reads R t = lines-unlines (optimize_once R (lines_of t)) (once-no_lf R (lines_of t) (lines-no_lf t))

pub mid-reads : (R : Reading) (t : List ℕ) → lines_of (unlines (apply (once_acts R (lines_of t)) (lines_of t))) ≡ apply (once_acts R (lines_of t)) (lines_of t)
mid-reads R t = lines-unlines (apply (once_acts R (lines_of t)) (lines_of t)) (acts-no_lf R (lines_of t) (lines-no_lf t))

-- the last step gives the pass
pub once-text : (R : Reading) (t x : List ℕ) → x ≡ unlines (apply (once_acts R (lines_of t)) (lines_of t)) → unlines (prune_decls (lines_of x)) ≡ unlines (optimize_once R (lines_of t))
unfolding optimize_once
once-text R t x e = ap (λ (s : List ℕ). unlines (prune_decls (lines_of s))) e ∙ ap (λ (ls : List (List ℕ)). unlines (prune_decls ls)) (mid-reads R t)

-- there are never more lines
pub once-lines : (R : Reading) (ls : List (List ℕ)) → length (optimize_once R ls) ≤ length ls
unfolding optimize_once prune_decls
once-lines R ls = omega (arith, apply-length (prune_decls_acts (apply (once_acts R ls) ls)) (apply (once_acts R ls) ls), apply-length (once_acts R ls) ls)
