use Prim.Native.Nat.{◌+◌, ◌≤◌, min}
use mathlib.Core.Path.{◌≡◌}
use lib.ListN.{drop}
use Rattle.lines.specs.Lf.{lines_of}
use Rattle.bind.specs.Bind.{decl_count}
use Rattle.lines.proofs.EachLaws.{Over}
use Rattle.bind.proofs.count_decls.Given as goal

abbrev pub invariant-loop-line : goal.invariant-loop-line
invariant-loop-line l = let it = l.line-iterator in Over l.text it × ((l.m ≤ 2) × ((min (l.m + decl_count l.reg.0 (lines_of (drop it.at l.text))) 2 ≡ min (l.n + decl_count l.reg.0 (lines_of l.text)) 2)))
