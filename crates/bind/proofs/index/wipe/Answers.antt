use Rattle.bind.proofs.index.wipe.Goals as goal

pub returns : goal.returns
returns c = (c.wipe.ensures, c.wipe-2.ensures)
