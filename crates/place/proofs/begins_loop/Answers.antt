use Rattle.place.proofs.begins_loop.Goals as goal

pub returns : goal.returns
returns c = rw (c.starts_with.ensures, c.starts_with-2.ensures, c.starts_with-3.ensures, c.starts_with-4.ensures, c.same.ensures)
