-- Demand 3 for texts: any text that is empty or ends in LF, then one whose lines open with a header and close no curly brace that they did not open; in joined mode nothing is open above it. Assumes nothing.
use Prim.Native.Nat.{ℕ}
use mathlib.Core.Path.{◌≡◌, ap, ◌∙◌}
use mathlib.Core.Bool.{true}
use mathlib.Core.List.{List, ◌++◌}
use Rattle.lines.specs.Steps.{split_lines}
use Rattle.place.specs.Inner.Region.{headed}
use Rattle.place.specs.Inner.Blocks.{own}
use Rattle.reading.specs.Reading.{clean_in, joined_at, reading_of, ends_shut}
use Rattle.steps.specs.Step.{step_of}
use Rattle.demands.proofs.Cuts.{Cuts, cut-pass}
use Rattle.demands.proofs.Split.{closed, split-cut}

-- the lines that the pass makes of the two texts in a mode, one after the other
pub cut-text : {k : ℕ} → Cuts k → (mode : ℕ) (u t : List ℕ) → closed u ≡ true → headed (split_lines t) ≡ true → ends_shut (joined_at mode) (split_lines u) ≡ true →
    own (clean_in (joined_at mode) (split_lines t)) ≡ true →
    step_of (reading_of mode) k (split_lines (u ++ t)) ≡ step_of (reading_of mode) k (split_lines u) ++ step_of (reading_of mode) k (split_lines t)
cut-text {k} c mode u t e h s o = ap (step_of (reading_of mode) k) (split-cut u t e) ∙ cut-pass c mode (split_lines u) (split_lines t) h s o
