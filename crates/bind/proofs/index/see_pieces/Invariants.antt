use Rattle.lines.specs.Lf.{parts_of}
use Rattle.lines.specs.Inner.Pieces.{pieces_left}
use Rattle.bind.proofs.IndexLaws.{SeeInv}
use Rattle.bind.proofs.index.see_pieces.Given as goal

abbrev pub invariant-loop-piece : goal.invariant-loop-piece
invariant-loop-piece l = SeeInv l.own l.m l.b (parts_of 44 l.body) (pieces_left l.piece-iterator) l.initial.seen l.initial.first l.seen l.first
