use Rattle.lines.specs.Lf.{parts_of}
use Rattle.lines.specs.Inner.Pieces.{pieces_left}
use Rattle.temps.proofs.TableLaws.{PiecesInv}
use Rattle.temps.proofs.table.flag_pieces.Given as goal

abbrev pub invariant-loop-piece : goal.invariant-loop-piece
invariant-loop-piece l = PiecesInv l.own (parts_of 44 l.s) (pieces_left l.piece-iterator) l.initial.table l.table
