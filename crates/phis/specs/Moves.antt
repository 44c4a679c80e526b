-- The acts of the three rounds of `prune_dead_phis` as one list. Assumes nothing.
use Rattle.std.specs.Prelude.{List, ℕ}
use Rattle.lines.specs.Acts.{Act}
use Rattle.origins.specs.Thin.{then_acts}
use Rattle.reading.specs.Reading.{Reading}
use Rattle.phis.specs.Phis.{round_acts, round}

unfoldable pub prune_dead_phis_acts : Reading → List (List ℕ) → List Act
unfolding round_acts round then_acts
prune_dead_phis_acts R ls = then_acts (then_acts (round_acts R ls) (round_acts R (round R ls))) (round_acts R (round R (round R ls)))
