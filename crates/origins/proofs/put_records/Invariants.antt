use Rattle.lines.proofs.EachLaws.{Over}
use Rattle.origins.specs.Form.{form_shape}
use Rattle.origins.proofs.Walks.{WalkInv}
use Rattle.origins.proofs.put_records.Given as goal

abbrev pub invariant-loop-k : goal.invariant-loop-k
invariant-loop-k l = let it = l.k-iterator in Over l.text it.iter × WalkInv (form_shape l.f) l.text l.lf l.table l.initial.orig l.orig it.iter.at l.p it.count l.o
