-- Steps that plainly change nothing: no line goes, and raw moves stay. Assumes nothing.
use Prim.Native.Nat.{ℕ}
use mathlib.Core.Path.{◌≡◌, refl, ap, ◌∙◌}
use mathlib.Core.Bool.{Bool, true, false, cond, not}
use mathlib.Core.List.{List, [], ◌∷◌}
use borrow.Author.Tests.{ne_eqb, eqb-true, not-true}
use lib.Dec.{eqb}
use lib.ListN.{length, replicate}
use Rattle.lines.specs.Lf.{all, holds, lines_of}
use Rattle.lines.specs.Inner.Lf.{lacks}
use Rattle.lines.specs.Acts.{Act, keep, become, into, gone}
use Rattle.lines.proofs.Tests.{no}
use Rattle.lines.proofs.ActLaws.{keeps, apply-keep}
use Rattle.origins.specs.Inner.Codes.{move_of, moves_of}
use Rattle.trails.specs.Inner.Trails.{thinned}
use Rattle.trails.proofs.TrailLaws.{thinned-stay}
use Rattle.reading.specs.Reading.{Reading}
use Rattle.globals.specs.Globals.{globals_acts, remove_globals}
use Rattle.globals.proofs.Laws as globals-laws
use Rattle.temps.specs.Temps.{prune_dead_temps_acts, prune_dead_temps}
use Rattle.temps.specs.Inner.Scratch.{temp_in}
use Rattle.temps.proofs.PassLaws.{temps-length}
use Rattle.temps.proofs.Lacks as temps-laws
use Rattle.names.specs.Names.{phi_word}
use Rattle.phis.specs.Phis.{prune_dead_phis}
use Rattle.phis.specs.Moves.{prune_dead_phis_acts}
use Rattle.phis.proofs.Held.{held-dead}
use Rattle.phis.proofs.Moves.{calm_lines, calm-moves}
use Rattle.steps.specs.Step.{step_of}
use Rattle.steps.specs.Inner.Few.{trailed, idle_in}

keeps-zeros : (xs : List Act) → all keeps xs ≡ true → moves_of xs ≡ replicate (length xs) 0
unfolding moves_of move_of
keeps-zeros [] h = refl
keeps-zeros (keep ∷ more) h = ap (λ (l : List ℕ). 0 ∷ l) (keeps-zeros more h)
keeps-zeros (become x ∷ more) h = no h
keeps-zeros (into n ∷ more) h = no h
keeps-zeros (gone ∷ more) h = no h

-- acts that keep all lines move none of them
kept-moves : (xs : List Act) → all keeps xs ≡ true → (t : List ℕ) → thinned t (moves_of xs) ≡ t
kept-moves xs h t = ap (thinned t) (keeps-zeros xs h) ∙ thinned-stay t (length xs)

module _ (R : Reading) (s t : List ℕ) where
  step-0 : step_of R 0 (lines_of s) ≡ remove_globals (lines_of s)
  unfolding step_of
  step-0 = refl

  step-1 : step_of R 1 (lines_of s) ≡ prune_dead_temps R (lines_of s)
  unfolding step_of
  step-1 = refl

  step-3 : step_of R 3 (lines_of s) ≡ prune_dead_phis R (lines_of s)
  unfolding step_of
  step-3 = refl

  trail-0 : trailed R 0 (lines_of s) t ≡ thinned t (moves_of (globals_acts (lines_of s)))
  unfolding trailed
  trail-0 = refl

  trail-1 : trailed R 1 (lines_of s) t ≡ thinned t (moves_of (prune_dead_temps_acts R (lines_of s)))
  unfolding trailed
  trail-1 = refl

  trail-3 : trailed R 3 (lines_of s) t ≡ thinned t (moves_of (prune_dead_phis_acts R (lines_of s)))
  unfolding trailed
  trail-3 = refl

  globals-lines : lacks 95 s ≡ true → remove_globals (lines_of s) ≡ lines_of s
  unfolding remove_globals
  globals-lines h = apply-keep (globals_acts (lines_of s)) (lines_of s) (globals-laws.acts-length (lines_of s)) (globals-laws.keeps-all s h)

  temps-lines : temp_in s ≡ false → prune_dead_temps R (lines_of s) ≡ lines_of s
  unfolding prune_dead_temps
  temps-lines h = apply-keep (prune_dead_temps_acts R (lines_of s)) (lines_of s) (temps-length R (lines_of s)) (temps-laws.keeps-all s h R)

  -- which of the three it is
  by-steps : (P : ℕ → Type 0) (k : ℕ) → idle_in k s ≡ true → (lacks 95 s ≡ true → P 0) → (temp_in s ≡ false → P 1) → (holds phi_word s ≡ false → P 3) → P k
  unfolding idle_in
  by-steps P k h a b c = go (eqb k 0) (eqb k 1) (eqb k 3) refl refl refl h
    where
      go : (x y z : Bool) → eqb k 0 ≡ x → eqb k 1 ≡ y → eqb k 3 ≡ z → cond x (lacks 95 s) (cond y (not (temp_in s)) (cond z (not (holds phi_word s)) false)) ≡ true → P k
      go true y z e f g i = rw (eqb-true k 0 e) (a i)
      go false true z e f g i = rw (eqb-true k 1 f) (b (not-true _ i))
      go false false true e f g i = rw (eqb-true k 3 g) (c (not-true _ i))
      go false false false e f g i = no i

  pub idle-lines : (k : ℕ) → idle_in k s ≡ true → step_of R k (lines_of s) ≡ lines_of s
  idle-lines k h =
      by-steps (λ (k : ℕ). step_of R k (lines_of s) ≡ lines_of s) k h (λ a. step-0 ∙ globals-lines a) (λ b. step-1 ∙ temps-lines b) (λ c. step-3 ∙ calm_lines R (lines_of s) (held-dead s c))

  pub idle-trail : (k : ℕ) → idle_in k s ≡ true → trailed R k (lines_of s) t ≡ t
  idle-trail k h =
      by-steps (λ (k : ℕ). trailed R k (lines_of s) t ≡ t) k h (λ a. trail-0 ∙ kept-moves (globals_acts (lines_of s)) (globals-laws.keeps-all s a) t)
      (λ b. trail-1 ∙ kept-moves (prune_dead_temps_acts R (lines_of s)) (temps-laws.keeps-all s b R) t)
      (λ c. trail-3 ∙ ap (thinned t) (calm-moves R (lines_of s) (held-dead s c)) ∙ thinned-stay t (length (lines_of s)))

-- ---- the test by the number of the step

module _ (k : ℕ) (s : List ℕ) where
  pub idle-0 : k ≡ 0 → idle_in k s ≡ lacks 95 s
  unfolding idle_in
  idle-0 e = rw e

  pub idle-1 : k ≡ 1 → idle_in k s ≡ not (temp_in s)
  unfolding idle_in
  idle-1 e = rw e

  pub idle-3 : k ≡ 3 → idle_in k s ≡ not (holds phi_word s)
  unfolding idle_in
  idle-3 e = rw e

  pub idle-else : (k ≡ 0 → ⊥) → (k ≡ 1 → ⊥) → (k ≡ 3 → ⊥) → idle_in k s ≡ false
  unfolding idle_in
  idle-else a b c = rw (ne_eqb k 0 a, ne_eqb k 1 b, ne_eqb k 3 c)
