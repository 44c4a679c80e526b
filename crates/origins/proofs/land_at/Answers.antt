use Rattle.origins.proofs.TableLaws.{land-down}
use Rattle.origins.proofs.land_at.Goals as goal

pub returns : goal.returns
returns c = let a = c.args in land-down a.below.now a.d c.taken_code.result c.code_at-c.result c.requires c.code_at-c.ensures c.taken_code.ensures
