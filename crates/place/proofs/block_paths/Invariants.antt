use Rattle.place.proofs.Flats.{PathsInv}
use Rattle.lines.proofs.EachLaws.{Over}
use Rattle.place.proofs.block_paths.Given as goal

abbrev pub invariant-loop-line : goal.invariant-loop-line
invariant-loop-line l = let it = l.line-iterator in Over l.text it × (PathsInv l.text l.initial.table l.table l.initial.up l.up l.initial.ends l.ends it.at l.k l.c l.n l.loops)
