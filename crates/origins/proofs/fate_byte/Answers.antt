use Rattle.origins.specs.Form.{fate_byte}
use Rattle.origins.proofs.Puts.{fate-as}
use Rattle.origins.proofs.fate_byte.Goals as goal

pub returns-in-Equal : goal.returns-in-Equal
unfolding fate_byte
returns-in-Equal c = fate-as c.args.w c.in-Equal.is

pub returns-in-Changed : goal.returns-in-Changed
unfolding fate_byte
returns-in-Changed c = fate-as c.args.w c.in-Changed.is

pub returns-in-Inside : goal.returns-in-Inside
unfolding fate_byte
returns-in-Inside c = fate-as c.args.w c.in-Inside.is

pub returns-in-Away : goal.returns-in-Away
unfolding fate_byte
returns-in-Away c = fate-as c.args.w c.in-Away.is
