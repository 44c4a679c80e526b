use Prim.Native.Nat.{◌+◌, ◌≤◌}
use mathlib.Core.Path.{◌≡◌}
use lib.ListN.{drop}
use Rattle.lines.specs.Lf.{lines_of}
use Rattle.once.specs.Once.{read_count}
use Rattle.lines.proofs.EachLaws.{Over}
use Rattle.once.proofs.read_once.Given as goal

abbrev pub invariant-loop-line : goal.invariant-loop-line
invariant-loop-line l = let it = l.line-iterator in Over l.text it × ((l.n ≤ 1) × (l.n + read_count l.reg.0 (lines_of (drop it.at l.text)) ≡ read_count l.reg.0 (lines_of l.text)))
