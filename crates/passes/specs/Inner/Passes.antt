-- What inner functions and laws ask beside Passes: no promise of an entry hangs on it. Assumes nothing.
use Rattle.std.specs.Prelude.{ℕ, zero, suc, List, length}
use Rattle.reading.specs.Reading.{Reading}
use Rattle.origins.specs.Fates.{Fate, follow, staying}
use Rattle.steps.specs.Step.{step_of, step_fates}

-- n steps from step k on
unfoldable pub steps_of : Reading → ℕ → ℕ → List (List ℕ) → List (List ℕ)
unfolding step_of
steps_of R k zero ls = ls
steps_of R k (suc n) ls = steps_of R (suc k) n (step_of R k ls)

-- where each line goes in them
unfoldable pub steps_fates : Reading → ℕ → ℕ → List (List ℕ) → List Fate
unfolding step_of step_fates
steps_fates R k zero ls = staying (length ls) 0
steps_fates R k (suc n) ls = follow (step_fates R k ls) (steps_fates R (suc k) n (step_of R k ls))
