use Rattle.lines.specs.Lf.{parts_of}
use Rattle.lines.specs.Inner.Pieces.{pieces_left}
use Rattle.decls.proofs.PrintLaws.{DeclLeft}
use Rattle.bind.specs.Inner.Steps.{bound_at, left}
use Rattle.bind.proofs.put_decl.Given as goal

abbrev pub invariant-loop-piece : goal.invariant-loop-piece
invariant-loop-piece l = DeclLeft (left (bound_at l.text l.s l.blocks l.starts)) 1 l.indent (parts_of 44 l.body) (pieces_left l.piece-iterator) l.initial.out l.out l.o l.p
