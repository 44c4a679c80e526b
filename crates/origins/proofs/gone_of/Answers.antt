use Rattle.origins.proofs.Puts.{gone-as}
use Rattle.origins.proofs.gone_of.Goals as goal

pub returns-in-Ol : goal.returns-in-Ol
returns-in-Ol c = gone-as c.args.f c.in-Ol.is

pub returns-in-Om : goal.returns-in-Om
returns-in-Om c = gone-as c.args.f c.in-Om.is
