use native.Mathlib.Omega.{arith}
use Prim.Native.Nat.{ℕ}
use lib.ListN.{length, length-replicate}
use Rattle.lines.specs.Lf.{lines_of}
use Rattle.lines.proofs.OutLaws.{wrote-length, wrote_then}
use Rattle.decls.proofs.note_decl.Goals as goal

pub stay_lines-n-requires : goal.stay_lines-n-requires
stay_lines-n-requires c = omega (arith, c.requires)

pub note-requires : goal.note-requires
note-requires c = let w = c.stay_lines-n.ensures in omega (arith, c.requires, w.place, wrote-length w, length-replicate {A = ℕ} (length (lines_of c.args.held.now)) 0)

pub returns : goal.returns
returns c = wrote_then c.stay_lines-n.ensures c.note.ensures
