use Prim.Native.Nat.{◌+◌, ◌≤◌, min}
use mathlib.Core.Path.{◌≡◌}
use Rattle.lines.specs.Lf.{parts_of}
use Rattle.lines.specs.Inner.Pieces.{pieces_left}
use Rattle.bind.specs.Bind.{piece_count}
use Rattle.bind.proofs.count_pieces.Given as goal

abbrev pub invariant-loop-piece : goal.invariant-loop-piece
invariant-loop-piece l = (l.m ≤ 2) × (min (l.m + piece_count l.reg.0 (pieces_left l.piece-iterator)) 2 ≡ min (l.n + piece_count l.reg.0 (parts_of 44 l.body)) 2)
