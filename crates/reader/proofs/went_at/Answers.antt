use Rattle.origins.specs.Read.{went_in}
use Rattle.reader.proofs.went_at.Goals as goal

pub fate_at-k-requires : goal.fate_at-k-requires
fate_at-k-requires c = c.requires

pub out_at-n-requires : goal.out_at-n-requires
out_at-n-requires c = c.requires

pub returns : goal.returns
unfolding went_in
returns c = rw (c.went_by.ensures, c.fate_at-k.ensures, c.out_at-n.ensures)
