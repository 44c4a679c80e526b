use Rattle.bind.proofs.IndexLaws.{ReadsInv}
use Rattle.lines.proofs.EachLaws.{Over}
use Rattle.bind.proofs.index.read_lines.Given as goal

abbrev pub invariant-loop-line : goal.invariant-loop-line
invariant-loop-line l = let it = l.line-iterator in Over l.text it × (ReadsInv l.own l.m l.b l.n l.text l.initial.seen l.initial.first l.seen l.first it.at l.k)
