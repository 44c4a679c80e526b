use Rattle.lines.proofs.EachLaws.{Over}
use Rattle.decls.proofs.Stretches.{StretchInv}
use Rattle.decls.proofs.seen.mark_region.Given as goal

abbrev pub invariant-loop-line : goal.invariant-loop-line
invariant-loop-line l = let it = l.line-iterator in Over l.text it × StretchInv l.own l.m l.text l.initial.seen l.seen l.a l.below l.q it.at
