use Rattle.origins.proofs.Puts.{size-as}
use Rattle.origins.proofs.size_of.Goals as goal

pub returns-in-Ol : goal.returns-in-Ol
returns-in-Ol c = size-as c.args.f c.in-Ol.is

pub returns-in-Om : goal.returns-in-Om
returns-in-Om c = size-as c.args.f c.in-Om.is
