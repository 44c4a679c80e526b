use Rattle.parse.proofs.names_none.Goals as goal

pub returns : goal.returns
returns c = rw c.byte_at-c.ensures
