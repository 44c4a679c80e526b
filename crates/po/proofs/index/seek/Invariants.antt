use mathlib.Core.Path.{◌≡◌}
use lib.ListN.{drop}
use Rattle.po.specs.Found.{decoded}
use Rattle.po.specs.Inner.Index.{seek_go, seek_of}
use Rattle.po.proofs.index.seek.Given as goal

abbrev pub invariant-loop-i : goal.invariant-loop-i
invariant-loop-i l = seek_of l.t l.own (decoded l.s l.q) ≡ seek_go l.t (drop l.i l.own) l.i (decoded l.s l.q)
