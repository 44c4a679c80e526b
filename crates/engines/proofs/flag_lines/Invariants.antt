use mathlib.Core.Path.{◌≡◌}
use lib.ListN.{length}
use Rattle.lines.proofs.EachLaws.{Over}
use Rattle.reading.specs.Reading.{reading_of}
use Rattle.once.specs.Inner.Tables.{Zeroed}
use Rattle.engines.proofs.EngineLaws.{FlagsInv}
use Rattle.engines.proofs.flag_lines.Given as goal

abbrev pub invariant-loop-line : goal.invariant-loop-line
invariant-loop-line l = let it = l.line-iterator in Over l.text it × ((l.scratch ≡ l.initial.scratch) × (Zeroed (length l.text) l.scratch × FlagsInv (reading_of l.mode.0) l.text l.paths l.loops l.initial.flags l.flags it.at l.k))
