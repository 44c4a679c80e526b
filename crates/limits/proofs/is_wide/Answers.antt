use Rattle.limits.proofs.AnswerLaws.{wide-as}
use Rattle.limits.proofs.is_wide.Goals as goal

pub returns-in-Ol : goal.returns-in-Ol
returns-in-Ol c = wide-as c.args.form c.args.n c.in-Ol.is

pub returns-in-Om : goal.returns-in-Om
returns-in-Om c = wide-as c.args.form c.args.n c.in-Om.is
