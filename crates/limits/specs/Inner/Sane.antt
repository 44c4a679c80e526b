-- What inner functions ask of limits, and of a text within them. Assumes nothing.
use Rattle.std.specs.Prelude.{ℕ, ◌≤◌, ◌<◌, ◌^◌, List, length}
use Rattle.lines.specs.Steps.{split_lines}
use Rattle.limits.specs.declared.Limits.{Limits}

-- the sizes of the work buffers, and the blocks of a text, are numbers of 32 bits
pub record Sane (L : Limits) : Type 0 where
  pub bytes-reach : L.bytes < 2 ^ 30

-- a text within limits
pub record Within (L : Limits) (t : List ℕ) : Type 0 where
  pub sane : Sane L
  pub bytes : length t ≤ L.bytes
  pub lines : length (split_lines t) ≤ L.lines
