use Rattle.expr.proofs.is_word.Goals as goal

pub returns : goal.returns
returns c = rw (c.same.ensures, c.same-2.ensures, c.same-3.ensures, c.same-4.ensures, c.same-5.ensures, c.same-6.ensures)
