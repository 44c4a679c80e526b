use Rattle.place.proofs.Walks.{PlaceInv}
use Rattle.place.proofs.Marks.{EndsInv}
use Rattle.lines.proofs.EachLaws.{Over}
use Rattle.place.proofs.place_lines.Given as goal

abbrev pub invariant-loop-line : goal.invariant-loop-line
invariant-loop-line l = let it = l.line-iterator in Over l.text it × (PlaceInv l.joined l.text l.initial.blocks l.blocks l.initial.starts l.starts l.initial.up l.up it.at l.k l.c l.n l.st l.above × EndsInv l.text l.initial.ends l.ends it.at l.k)
