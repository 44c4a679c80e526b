use Rattle.bind.proofs.Turns.{site-made}
use Rattle.bind.proofs.site_at.Goals as goal

pub returns : goal.returns
returns c = let a = c.args in site-made a.text.now a.rec a.top a.end a.k c.after-next.result c.after-next.ensures
