-- The pieces that an iterator over them has still to give. Assumes nothing.
use Rattle.std.specs.Prelude.{ℕ, List, [], Option, Some, None}
use Rattle.std.specs.Borrow.{Bor}
use Rattle.lines.specs.Lf.{parts_of}
use Rattle.lines.specs.declared.between.PiecesLeft.{PiecesLeft}

-- those of what is left of the text, where anything is
abbrev pub pieces_of_rest : ℕ → Option (Bor (List ℕ)) → List (List ℕ)
pieces_of_rest b None = []
pieces_of_rest b (Some rest) = parts_of b rest.now

-- the pieces that are left
abbrev pub pieces_left : PiecesLeft → List (List ℕ)
pieces_left p = pieces_of_rest p.by p.rest
