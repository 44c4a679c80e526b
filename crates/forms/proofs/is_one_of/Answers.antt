use Rattle.forms.proofs.PrimaryLaws.{among-found}
use Rattle.forms.proofs.is_one_of.Goals as goal

pub find_byte-requires : goal.find_byte-requires
find_byte-requires c = tt

pub returns : goal.returns
returns c = let a = c.args in among-found a.bs.now a.x c.find_byte.result c.find_byte.ensures
