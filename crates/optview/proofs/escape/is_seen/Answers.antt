use Rattle.optview.proofs.Showing.{seen_as}
use Rattle.optview.proofs.escape.is_seen.Goals as goal

pub returns : goal.returns
returns c = seen_as c.args.s.now c.unseen_len-n.result c.byte_at-a.result c.is_sign-b.result c.unseen_len-n.ensures c.byte_at-a.ensures c.is_sign-b.ensures
