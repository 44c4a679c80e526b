use Rattle.lines.specs.Lf.{lines_of, parts_of}
use Rattle.lines.specs.Inner.Pieces.{pieces_left}
use Rattle.decls.proofs.PrintLaws.{DeclLeft}
use Rattle.phis.specs.Inner.Rounds.{live}
use Rattle.phis.proofs.put_decl.Given as goal

abbrev pub invariant-loop-piece : goal.invariant-loop-piece
invariant-loop-piece l = DeclLeft (live (lines_of l.text)) 3 l.indent (parts_of 44 l.body) (pieces_left l.piece-iterator) l.initial.out l.out l.o l.p
