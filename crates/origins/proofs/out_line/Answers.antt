use mathlib.Core.Path.{◌∙◌}
use Rattle.origins.specs.Form.{form_shape, out_line}
use Rattle.origins.proofs.Puts.{out-as}
use Rattle.origins.proofs.out_line.Goals as goal

pub returns-in-Equal : goal.returns-in-Equal
unfolding out_line
returns-in-Equal c = out-as (form_shape c.args.f) c.args.w c.in-Equal.is

pub returns-in-Changed : goal.returns-in-Changed
unfolding out_line
returns-in-Changed c = out-as (form_shape c.args.f) c.args.w c.in-Changed.is

pub returns-in-Inside : goal.returns-in-Inside
unfolding out_line
returns-in-Inside c = out-as (form_shape c.args.f) c.args.w c.in-Inside.is

pub returns-in-Away : goal.returns-in-Away
unfolding out_line
returns-in-Away c = c.gone_of.ensures ∙ out-as (form_shape c.args.f) c.args.w c.in-Away.is
