use lib.ListN.{length}
use Rattle.origins.specs.Form.{form_shape}
use Rattle.reader.specs.Replies.{wents_in}
use Rattle.reader.proofs.ChainLaws.{ChainInv}
use Rattle.reader.proofs.link_all.Given as goal

abbrev pub invariant-loop-i : goal.invariant-loop-i
invariant-loop-i l = ChainInv (wents_in (form_shape l.f) l.file) l.m (length l.initial.first) l.initial.next l.first l.next l.i
