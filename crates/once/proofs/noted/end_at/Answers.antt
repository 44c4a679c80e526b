use Rattle.once.proofs.BackLaws.{end_by}
use Rattle.once.proofs.noted.end_at.Goals as goal

pub returns : goal.returns
returns c = let a = c.args in end_by a.text.now a.j _ _ c.requires c.entry-e.ensures c.if-e-eq0.false
