use Rattle.lines.specs.Lf.{lines_of, parts_of}
use Rattle.lines.specs.Inner.Pieces.{pieces_left}
use Rattle.pruned.proofs.MarkCode.{NamesInv}
use Rattle.pruned.proofs.marks.put_names.Given as goal

abbrev pub invariant-loop-piece : goal.invariant-loop-piece
invariant-loop-piece l = NamesInv (lines_of l.region) (parts_of 44 l.body) (pieces_left l.piece-iterator) l.initial.out l.out l.o l.p
