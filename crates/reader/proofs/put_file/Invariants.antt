use Rattle.origins.specs.Form.{form_shape, file_of}
use Rattle.reader.specs.Replies.{wents_in}
use Rattle.reader.specs.Inner.Each.{left}
use Rattle.reader.proofs.Laws.{FileInv}
use Rattle.reader.proofs.put_file.Given as goal

abbrev pub invariant-loop-i : goal.invariant-loop-i
invariant-loop-i l = let it = l.i-iterator in FileInv (file_of (form_shape l.g) (wents_in (form_shape l.fn.f) l.file)) (form_shape l.g) it.count (left it.iter) l.initial.out l.out l.p
