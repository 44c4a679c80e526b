use Rattle.reading.specs.Reading.{strict_at, reading_of}
use Rattle.temps.proofs.PassLaws.{TempInv}
use Rattle.lines.proofs.EachLaws.{Over}
use Rattle.temps.proofs.prune_with.Given as goal

abbrev pub invariant-loop-line : goal.invariant-loop-line
invariant-loop-line l = let it = l.line-iterator in Over l.text it × (TempInv (reading_of l.mode.0) (strict_at l.mode.0) l.text l.initial.scratch l.initial.out l.initial.moves l.scratch l.out l.moves it.at l.o l.k)
