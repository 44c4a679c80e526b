use Rattle.bind.proofs.CountLaws.{once-two}
use Rattle.bind.proofs.stored_once.Goals as goal

pub returns : goal.returns
returns c = once-two c.count_stores-a.result c.count_stores-b.result _ _ c.count_stores-a.ensures c.count_stores-b.ensures
