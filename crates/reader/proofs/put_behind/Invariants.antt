use Rattle.origins.specs.Form.{form_shape}
use Rattle.origins.specs.Answers.{behind}
use Rattle.reader.specs.Replies.{wents_in}
use Rattle.reader.specs.Inner.Each.{left}
use Rattle.reader.proofs.Laws.{BehindInv}
use Rattle.reader.proofs.put_behind.Given as goal

abbrev pub invariant-loop-i : goal.invariant-loop-i
invariant-loop-i l = let it = l.i-iterator in BehindInv (behind l.n (wents_in (form_shape l.fn.f) l.file)) l.n it.count (left it.iter) l.initial.room l.room l.k
